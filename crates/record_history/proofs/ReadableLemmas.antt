-- Paths and classes of readable events, by what is found of each.
use Rattle.std.proofs.Common.{◌≡◌, ℕ, Bool, List, [], ◌∷◌, map, subst}
use Rattle.std.proofs.Common.{Bor}
use Rattle.std.specs.Prelude.{◌↔◌, All, IsTrue}
use Rattle.std.specs.List.{AllByRecursion}
use Rattle.std.proofs.lemmas.List.Elements.{All-from_recursion, recursion_from_All}
use Rattle.class_plan.specs.declared.schedules.Schedule.{Schedule}
use Rattle.class_plan.specs.Parts.{ClassAnswer, answer_row}
use Rattle.class_plan.specs.Plans.{Row}
use Rattle.class_plan.specs.Schedules.{IsInRangeIfAny}
use Rattle.record_history.specs.Readable.{IsListing, IsPathText, IsRow}
use Rattle.record_history.specs.Spelled.{HasSchedules}

abbrev pub IsPath : Bor (List ℕ) → Type 0
IsPath p = IsPathText p.now

paths_to : (ps : List (Bor (List ℕ))) → AllByRecursion IsPath ps → AllByRecursion IsPathText (map (λ p. p.now) ps)
paths_to [] h = tt
paths_to (p ∷ ps) h = (h.0, paths_to ps h.1)

paths_from : (ps : List (Bor (List ℕ))) → AllByRecursion IsPathText (map (λ p. p.now) ps) → AllByRecursion IsPath ps
paths_from [] h = tt
paths_from (p ∷ ps) h = (h.0, paths_from ps h.1)

pub paths_readable : (r : Bool) (ps : List (Bor (List ℕ))) → (IsTrue r ↔ All IsPath ps)
    → (IsTrue r ↔ AllByRecursion IsPathText (map (λ p. p.now) ps))
paths_readable r ps h =
    (λ yes. paths_to ps (recursion_from_All IsPath ps (h.0 yes)), λ all. h.1 (All-from_recursion IsPath ps (paths_from ps all)))

abbrev pub HasPath : ClassAnswer → Type 0
HasPath c = IsPathText c.0.now

abbrev IsRanged : Row → Type 0
IsRanged r = IsInRangeIfAny r.schedule

rows_to : (cs : List ClassAnswer) → AllByRecursion IsRanged (map answer_row cs) → AllByRecursion HasPath cs
    → AllByRecursion IsRow (map answer_row cs)
rows_to [] h k = tt
rows_to (c ∷ cs) h k = (record { path = k.0; range = h.0 }, rows_to cs h.1 k.1)

rows_from : (cs : List ClassAnswer) → AllByRecursion IsRow (map answer_row cs) → AllByRecursion HasPath cs
rows_from [] h = tt
rows_from (c ∷ cs) h = (h.0.path, rows_from cs h.1)

pub listing_readable : (r : Bool) (root : Schedule) (cs given : List ClassAnswer) → given ≡ cs
    → HasSchedules (record { root = root; rows = map answer_row cs }) → (IsTrue r ↔ All HasPath given)
    → (IsTrue r ↔ IsListing (record { root = root; rows = map answer_row cs }))
listing_readable r root cs given same known h =
    let P : List ClassAnswer → Type 0 = λ l. IsTrue r ↔ All HasPath l in
    let listed : IsTrue r ↔ All HasPath cs = subst P same h in
    let ranged : AllByRecursion IsRanged (map answer_row cs) = recursion_from_All IsRanged (map answer_row cs) known.rows in (
      λ yes. record { root = known.root; rows = rows_to cs ranged (recursion_from_All HasPath cs (listed.0 yes)) },
      λ listing. listed.1
          (All-from_recursion HasPath cs (rows_from cs listing.rows)),
    )
