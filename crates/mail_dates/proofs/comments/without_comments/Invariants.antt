use Rattle.std.proofs.Common.{◌≡◌, ◌++◌, ◌≤◌, drop}
use Rattle.std.specs.Prelude.{option_map}
use Rattle.mail_dates.specs.Comments.{uncommented, without_comments}
use Rattle.mail_dates.proofs.comments.without_comments.Given as goal

abbrev pub invariant-loop-octet : goal.invariant-loop-octet
invariant-loop-octet l = record {
  text : option_map (λ rest. l.kept.items ++ rest) (uncommented l.depth l.is_escaped (drop l.octet-index l.text)) ≡ without_comments l.text;
  few : l.depth ≤ l.octet-index;
}
