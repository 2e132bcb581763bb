use Rattle.std.proofs.Common.{◌∷◌, [], ap, sym, ◌∙◌, arith, length, length-append}
use Rattle.mail_words.specs.Unfolding.{without_line_ends}
use Rattle.mail_words.proofs.FoldedLemmas.{last_blanks-more, last_blanks-stop, last_blanks-none}
use Rattle.mail_words.proofs.unfolding.trim_end.Goals as goal

pub loop-before-smaller : goal.loop-before-smaller
loop-before-smaller c = omega (arith, ap length c.in-Some.ensures, length-append (without_line_ends c.in-Some.before.now) (c.in-Some.octet ∷ []))

pub loop-before-preserved : goal.loop-before-preserved
loop-before-preserved c = c.loop-before.invariant
    ∙ last_blanks-more (without_line_ends c.loop-before.rest.now) (without_line_ends c.in-Some.before.now)
    c.in-Some.octet c.in-Some.ensures (sym c.is_blank_octet.ensures ∙ c.if-not-is_blank_octet.false)

pub returns-then-not-is_blank_octet : goal.returns-then-not-is_blank_octet
returns-then-not-is_blank_octet c = sym (c.loop-before.invariant
    ∙ last_blanks-stop (without_line_ends c.loop-before.rest.now) (without_line_ends c.in-Some.before.now)
    c.in-Some.octet c.in-Some.ensures (sym c.is_blank_octet.ensures ∙ c.if-not-is_blank_octet.true))

pub returns : goal.returns
returns c = sym (c.loop-before.invariant ∙ last_blanks-none (without_line_ends c.loop-before.rest.now) c.in_default.ensures)
