use Rattle.std.proofs.Common.{◌≡◌, ◌++◌, map, drop}
use Rattle.std.specs.Prelude.{flat_map}
use Rattle.class_plan.specs.Parts.{answer_row}
use Rattle.record_history.specs.Lines.{class_text, plan_text}
use Rattle.record_history.specs.Views.{listing_view}
use Rattle.record_history.proofs.texts.plan_text.Given as goal

-- what is written so far, with the classes that are left, is the plan
abbrev pub invariant-loop-class : goal.invariant-loop-class
invariant-loop-class l = l.text.items ++ flat_map class_text (map answer_row (drop l.class-index l.plan.classes.items))
    ≡ plan_text (listing_view l.plan)
