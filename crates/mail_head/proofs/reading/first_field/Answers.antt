use Rattle.std.proofs.Common.{refl}
use Rattle.mail_head.proofs.FoundLemmas.{Passed-none, Passed-more, Passed-found, Passed-done}
use Rattle.mail_head.proofs.reading.first_field.Goals as goal

pub loop-rest-init : goal.loop-rest-init
loop-rest-init c = Passed-none c.args.text.now

pub returns-in-Some : goal.returns-in-Some
returns-in-Some c =
    Passed-found c.args.text.now c.loop-rest.rest.now c.split_at.result.0.now c.split_at.result.1.now
    c.logical_len.result _ c.loop-rest.invariant c.logical_len.ensures.value c.logical_len.ensures.within
    c.split_at.ensures.front c.split_at.ensures.front_len c.split_at.ensures.back c.in-Some.ensures.value
    c.in-Some.ensures.within refl refl

pub loop-rest-preserved : goal.loop-rest-preserved
loop-rest-preserved c =
    Passed-more c.args.text.now c.loop-rest.rest.now c.split_at.result.0.now c.split_at.result.1.now
    c.logical_len.result c.loop-rest.invariant c.logical_len.ensures.value c.logical_len.ensures.within
    c.split_at.ensures.front c.split_at.ensures.back c.in_default.ensures.value

pub returns : goal.returns
returns c = Passed-done c.args.text.now c.loop-rest.rest.now c.loop-rest.invariant (c.loop-rest-test.ensures.over refl)
