use Rattle.std.proofs.Common.{ap, sym, ◌∙◌, arith, length}
use Rattle.mail_words.specs.Unfolding.{without_line_ends}
use Rattle.mail_words.proofs.FoldedLemmas.{first_blanks-more, first_blanks-stop, first_blanks-none}
use Rattle.mail_words.proofs.unfolding.trim_start.Goals as goal

pub loop-octet-smaller : goal.loop-octet-smaller
loop-octet-smaller c = omega (arith, ap length c.in-Some.ensures.2)

pub loop-octet-preserved : goal.loop-octet-preserved
loop-octet-preserved c = c.loop-octet.invariant
    ∙ first_blanks-more (without_line_ends c.loop-octet.rest.now) (without_line_ends c.in-Some.following.now)
    c.in-Some.octet c.in-Some.ensures.2 (sym c.is_blank_octet.ensures ∙ c.if-not-is_blank_octet.false)

pub returns-then-not-is_blank_octet : goal.returns-then-not-is_blank_octet
returns-then-not-is_blank_octet c =
    sym (c.loop-octet.invariant
    ∙ first_blanks-stop (without_line_ends c.loop-octet.rest.now) (without_line_ends c.in-Some.following.now)
    c.in-Some.octet c.in-Some.ensures.2 (sym c.is_blank_octet.ensures ∙ c.if-not-is_blank_octet.true))

pub returns : goal.returns
returns c = sym (c.loop-octet.invariant ∙ first_blanks-none (without_line_ends c.loop-octet.rest.now) c.in_default.ensures)
