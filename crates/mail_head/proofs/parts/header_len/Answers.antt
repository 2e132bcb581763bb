use Rattle.std.proofs.Common.{refl}
use Rattle.mail_head.proofs.PartLemmas.{Taken-none, Taken-more, Taken-done}
use Rattle.mail_head.proofs.parts.header_len.Goals as goal

pub loop-rest-init : goal.loop-rest-init
loop-rest-init c = Taken-none c.args.text.now

pub loop-rest-preserved : goal.loop-rest-preserved
loop-rest-preserved c =
    Taken-more c.args.text.now c.loop-rest.rest.now c.split_at.result.0.now c.split_at.result.1.now c.loop-rest.len
    c.first_line_len.result c.loop-rest.invariant (c.loop-rest-test.ensures.goes_on refl)
    c.first_line_len.ensures.value c.first_line_len.ensures.within c.split_at.ensures.back
    c.split_at.ensures.front_len

pub returns-clause-value : goal.returns-clause-value
returns-clause-value c = Taken-done c.args.text.now c.loop-rest.rest.now c.loop-rest.len c.loop-rest.invariant (c.loop-rest-test.ensures.over refl)
