use Rattle.std.proofs.Common.{◌∙◌, ◌++◌, ℕ, ap, arith, string_bytes}
use Rattle.std.specs.Char.{encode_utf8}
use Rattle.tool_texts.proofs.Pushes.{pushed_next, pushed_all}
use Rattle.cli_texts.proofs.escapes.push_octet.Goals as goal

pub loop-shown-preserved : goal.loop-shown-preserved
loop-shown-preserved c = record {
  same = pushed_next _ _ _ _ _ _ (c.in_ok-push.ensures.bytes ∙ ap (λ (x : ℕ). string_bytes c.loop-shown.text ++ encode_utf8 x) c.from.ensures)
      c.in-Some.ensures.steps.1.0 c.loop-shown.invariant.same;
  fits = omega (arith, c.in-Some.ensures.steps.0, c.loop-shown.invariant.fits);
}

pub returns : goal.returns
returns c = pushed_all _ _ _ (search arith) c.loop-shown.invariant.same
