use Rattle.std.proofs.Common.{◌≡◌, ◌++◌, drop, flat_map, map, string_bytes}
use Rattle.class_plan.specs.Parts.{answer_row}
use Rattle.cli_texts.specs.PlanTexts.{row_lines}
use Rattle.cli_texts.proofs.plans.push_classes.Given as goal

abbrev pub invariant-loop-class : goal.invariant-loop-class
invariant-loop-class l =
    string_bytes l.text ++ flat_map (row_lines l.plan) (map answer_row (drop l.class-index l.classes))
    ≡ string_bytes l.initial.text ++ flat_map (row_lines l.plan) (map answer_row l.classes)
