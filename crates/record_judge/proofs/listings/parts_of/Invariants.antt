use Rattle.std.proofs.Common.{◌≡◌, map, take}
use Rattle.class_plan.specs.Parts.{answer_row, part_row}
use Rattle.record_judge.proofs.listings.parts_of.Given as goal

abbrev pub invariant-loop-class : goal.invariant-loop-class
invariant-loop-class l = map part_row l.parts.items ≡ map answer_row (take l.class-index l.classes)
