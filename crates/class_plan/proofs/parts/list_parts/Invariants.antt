use Rattle.std.proofs.Common.{◌≡◌, map, take}
use Rattle.class_plan.specs.Entries.{entry_view}
use Rattle.class_plan.specs.Parts.{part_entry}
use Rattle.class_plan.proofs.parts.list_parts.Given as goal

abbrev pub invariant-loop-part : goal.invariant-loop-part
invariant-loop-part l = map entry_view l.listed.items ≡ map part_entry (take l.part-index l.parts)
