use Rattle.std.proofs.Common.{sym, ◌∙◌}
use Rattle.mail_words.proofs.FoldedLemmas.{Skipped-none, Skipped-one, Skipped-to, Skipped-all}
use Rattle.mail_words.proofs.unfolding.first_octet.Goals as goal

pub loop-rest-init : goal.loop-rest-init
loop-rest-init c = Skipped-none c.args.text.now

pub loop-rest-preserved : goal.loop-rest-preserved
loop-rest-preserved c =
    Skipped-one c.args.text.now c.loop-rest.rest.now c.split_at.result.1.now c.loop-rest.invariant
    (sym c.stands_at_line_end.ensures.value ∙ c.loop-rest-test.true) c.split_at.ensures.back

pub returns-in-Some : goal.returns-in-Some
returns-in-Some c =
    Skipped-to c.args.text.now c.loop-rest.rest.now _ _ c.loop-rest.invariant (sym c.stands_at_line_end.ensures.value
    ∙ c.loop-rest-test.false) c.in-Some.ensures.cases.0

pub returns-in-None : goal.returns-in-None
returns-in-None c = Skipped-all c.args.text.now c.loop-rest.rest.now c.loop-rest.invariant c.in-None.ensures.cases
