use Rattle.std.proofs.Common.{arith}
use Rattle.tool_texts.specs.Quoting.{scalar_text}
use Rattle.tool_texts.proofs.Pushes.{pushed_next, pushed_all}
use Rattle.tool_texts.proofs.quoting.push_scalar.Goals as goal

pub loop-shown-preserved : goal.loop-shown-preserved
loop-shown-preserved c = record {
  same = pushed_next _ _ _ _ _ _ c.in_ok-push.ensures.bytes c.in-Some.ensures.steps.1.0 c.loop-shown.invariant.same;
  fits = omega (arith, c.in-Some.ensures.steps.0, c.loop-shown.invariant.fits);
}

pub returns : goal.returns
unfolding scalar_text
returns c = pushed_all _ _ _ (search arith) c.loop-shown.invariant.same
