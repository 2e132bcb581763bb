use Rattle.tool_texts.proofs.Visible.{lines_after, line_end}
use Rattle.tool_texts.proofs.shown.Shown.end_line.Goals as goal

pub invariant_of-self : goal.invariant_of-self
invariant_of-self c = lines_after _ _ _ _ c.push.ensures.bytes c.self.invariant line_end
