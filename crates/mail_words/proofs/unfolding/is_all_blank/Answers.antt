use Rattle.std.proofs.Common.{ap, sym, ◌∙◌, arith, length}
use Rattle.std.specs.List.{list_all}
use Rattle.mail_words.specs.Unfolding.{is_blank, without_line_ends}
use Rattle.mail_words.proofs.FoldedLemmas.{all_blank-more, all_blank-stop}
use Rattle.mail_words.proofs.unfolding.is_all_blank.Goals as goal

pub loop-octet-smaller : goal.loop-octet-smaller
loop-octet-smaller c = omega (arith, ap length c.in-Some.ensures.2)

pub loop-octet-preserved : goal.loop-octet-preserved
loop-octet-preserved c =
    sym (all_blank-more (without_line_ends c.loop-octet.rest.now) (without_line_ends c.in-Some.following.now)
    c.in-Some.octet c.in-Some.ensures.2 (sym c.is_blank_octet.ensures ∙ c.if-not-is_blank_octet.false))
    ∙ c.loop-octet.invariant

pub returns-then-not-is_blank_octet : goal.returns-then-not-is_blank_octet
returns-then-not-is_blank_octet c =
    sym (all_blank-stop (without_line_ends c.loop-octet.rest.now) (without_line_ends c.in-Some.following.now)
    c.in-Some.octet c.in-Some.ensures.2 (sym c.is_blank_octet.ensures ∙ c.if-not-is_blank_octet.true))
    ∙ c.loop-octet.invariant

pub returns : goal.returns
returns c = sym (ap (list_all is_blank) c.in_default.ensures) ∙ c.loop-octet.invariant
