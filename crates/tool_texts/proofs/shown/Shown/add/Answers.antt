use Rattle.tool_texts.proofs.Visible.{lines_after, lines_of_shown}
use Rattle.tool_texts.proofs.shown.Shown.add.Goals as goal

pub invariant_of-self : goal.invariant_of-self
invariant_of-self c = lines_after _ _ _ _ c.push_str.ensures.bytes c.self.invariant (lines_of_shown _ c.requires)
