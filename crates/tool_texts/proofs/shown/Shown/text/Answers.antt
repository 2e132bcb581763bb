use Rattle.std.proofs.Common.{subst, sym}
use Rattle.tool_texts.specs.Quoting.{AreLines}
use Rattle.tool_texts.proofs.Visible.{lines_after}
use Rattle.tool_texts.proofs.shown.Shown.text.Goals as goal

pub invariant_of-self : goal.invariant_of-self
invariant_of-self c =
    lines_after _ _ _ _ c.push_str.ensures.bytes c.self.invariant (subst AreLines (sym c.as_str.ensures.value) c.other.invariant)
