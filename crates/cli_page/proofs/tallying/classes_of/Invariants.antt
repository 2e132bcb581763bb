use Rattle.std.proofs.Common.{◌≡◌, ◌++◌, drop, map}
use Rattle.class_plan.specs.Parts.{answer_row}
use Rattle.cli_page.specs.Tallies.{class_seen, class_of_none}
use Rattle.cli_page.proofs.tallying.classes_of.Given as goal

-- the classes so far, and those that are to come
abbrev pub invariant-loop-row : goal.invariant-loop-row
invariant-loop-row l =
    map class_seen l.classes.items ++ map class_of_none (map answer_row (drop l.row-index l.row-items)) ≡ map class_of_none l.plan.rows
