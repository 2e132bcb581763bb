use Rattle.std.proofs.Common.{◌≡◌, ◌++◌, drop}
use Rattle.std.specs.Prelude.{flat_map}
use Rattle.tool_inquiry.specs.Outcomes.{next_class}
use Rattle.tool_inquiry.proofs.outcomes.push_more.Given as goal

abbrev pub invariant-loop-path : goal.invariant-loop-path
invariant-loop-path l = l.text.items ++ flat_map next_class (drop l.path-index l.paths) ≡ l.initial.text.items ++ flat_map next_class l.paths
