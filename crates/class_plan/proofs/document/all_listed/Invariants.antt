use Rattle.std.proofs.Common.{◌≡◌, ◌++◌, map, option_map, drop}
use Rattle.toml.specs.View.{items_view}
use Rattle.class_plan.specs.Document.{entries_of}
use Rattle.class_plan.specs.Entries.{entry_view}
use Rattle.class_plan.proofs.document.all_listed.Given as goal

abbrev pub invariant-loop-value : goal.invariant-loop-value
invariant-loop-value l = entries_of (items_view l.values.items) ≡ option_map (λ more. map entry_view l.out.items
    ++ more) (entries_of (items_view (drop l.value-index l.values.items)))
