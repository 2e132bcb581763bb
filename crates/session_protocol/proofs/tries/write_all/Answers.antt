use Rattle.std.proofs.Common.{arith}
use Rattle.std.proofs.Math.Seq.{take-add}
use Rattle.std.proofs.lemmas.Grind.{common_steps}
use Rattle.session_protocol.proofs.Troubles.{outlasts_on}
use Rattle.session_protocol.proofs.tries.write_all.Goals as goal

pub loop-at-preserved : goal.loop-at-preserved
loop-at-preserved g c = record {
  within = grind (arith, common_steps);
  written = λ t. let w = c.in_ok-at.ensures.written t in let v = c.loop-at.invariant.written t in let s =
      take-add c.loop-at.at c.in_ok-at.field-0 c.args.octets.now in grind (arith, common_steps, w, v, s);
  troubles = outlasts_on g.K.Sink.troubles _ _ _ c.loop-at.invariant.troubles c.in_ok-at.ensures.troubles;
}
