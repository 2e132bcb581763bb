use Rattle.std.proofs.Common.{sym, ◌∙◌}
use Rattle.mail_words.proofs.FoldedLemmas.{unfolded-line, unfolded-last, unfolded-nil}
use Rattle.mail_words.proofs.unfolding.last_octet.Goals as goal

pub loop-rest-preserved : goal.loop-rest-preserved
loop-rest-preserved c = c.loop-rest.invariant
    ∙ unfolded-line c.loop-rest.rest.now c.split_at.result.0.now c.line_text-rest.result.now
    (sym c.ends_line.ensures.value ∙ c.loop-rest-test.true) c.split_at.ensures.front c.line_text-rest.ensures

pub returns-in-Some : goal.returns-in-Some
returns-in-Some c =
    unfolded-last c.args.text.now c.loop-rest.rest.now _ _ c.loop-rest.invariant (sym c.ends_line.ensures.value
    ∙ c.loop-rest-test.false) c.in-Some.ensures.cases.0

pub returns-in-None : goal.returns-in-None
returns-in-None c = unfolded-nil c.args.text.now c.loop-rest.rest.now c.loop-rest.invariant c.in-None.ensures.cases
