use Rattle.std.proofs.Common.{◌≡◌, ◌<◌, ◌≤◌, length, Some, None, get_or, rules, ◌∷◌, []}
use Rattle.std.proofs.lemmas.List.{map-append}
use Rattle.toml.specs.View.{view}
use Rattle.class_plan.specs.Document.{entry_of}
use Rattle.class_plan.specs.Entries.{entry_view}
use Rattle.class_plan.proofs.Classes.{entries-more, entries-bad, entries-all}
use Rattle.class_plan.proofs.document.all_listed.Goals as goal

pub returns-in-None : goal.returns-in-None
returns-in-None c =
    let h : c.loop-value.value-index < length c.args.values.now.items = search rules in
    let is : None ≡ entry_of (view (get_or c.args.values.now.items c.loop-value.value-index c.value-item.result)) = search rules in
    entries-bad _ _ _ _ h is c.loop-value.invariant

pub loop-value-preserved : goal.loop-value-preserved
loop-value-preserved c =
    let h : c.loop-value.value-index < length c.args.values.now.items = search rules in
    let is : Some (entry_view c.in-Some.class)
    ≡ entry_of (view (get_or c.args.values.now.items c.loop-value.value-index c.value-item.result)) =
    search rules in
    let more = entries-more _ _ _ _ _ h is c.loop-value.invariant in
    rw c.in_ok-push-in-Some.ensures.items (rw (map-append entry_view c.loop-value.out.items (c.in-Some.class ∷ [])) more)

pub returns : goal.returns
returns c =
    let h : length c.args.values.now.items ≤ c.loop-value.value-index = search rules in
    entries-all _ _ _ h c.loop-value.invariant
