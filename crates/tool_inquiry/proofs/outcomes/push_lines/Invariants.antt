use Rattle.std.proofs.Common.{◌≡◌, ◌++◌, drop}
use Rattle.std.specs.Prelude.{flat_map}
use Rattle.tool_inquiry.specs.Outcomes.{class_octets}
use Rattle.tool_inquiry.proofs.outcomes.push_lines.Given as goal

abbrev pub invariant-loop-path : goal.invariant-loop-path
invariant-loop-path l = l.text.items ++ flat_map class_octets (drop l.path-index l.paths) ≡ l.initial.text.items ++ flat_map class_octets l.paths
