use Rattle.std.proofs.Common.{sym, ◌∙◌}
use Rattle.mail_boxes.proofs.LineLemmas.{quoted_some}
use Rattle.mail_boxes.proofs.marks.unquoted.Goals as goal

pub split_at-requires : goal.split_at-requires
split_at-requires c = quoted_some c.args.line.now (sym c.is_quoted.ensures ∙ c.if-is_quoted.true)
