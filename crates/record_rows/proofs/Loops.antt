-- Steps of the loops over rows.
use Rattle.std.proofs.Common.{◌≡◌, ℕ, ◌+◌, ◌-◌, ◌<◌, ◌≤◌, true, false, List, [], ◌∷◌, ◌++◌, map, length, take, drop}
use Rattle.std.proofs.Common.{get_or, OnSome, subst, Option, Some, None, is_some, refl, ap, sym, ◌∙◌, arith}
use Rattle.std.proofs.Common.{length-drop}
use Rattle.std.proofs.lemmas.List.{drop_more, drop-drop, take_rest}
use Rattle.class_plan.specs.declared.schedules.Schedule.{Schedule}
use Rattle.class_plan.specs.Plans.{Row}
use Rattle.class_plan.specs.Parts.{Part, ClassAnswer, answer_row, part_row}
use Rattle.record_tables.specs.declared.rows.HoldRow.{HoldRow}
use Rattle.record_tables.specs.declared.rows.ScheduleRow.{ScheduleRow}
use Rattle.record_tables.specs.declared.rows.ClassRow.{ClassRow}
use Rattle.record_tables.specs.CodeRows.{rule_of, hold_entry_of, class_entry_of}
use Rattle.record_rows.specs.Rules.{entry_of_row, answer_entry}
use Rattle.record_rows.specs.Merge.{own_in, rest_in, merge}
use Rattle.record_rows.specs.Tests.{rises_after}
use Rattle.record_rows.proofs.Merged.{merged-more}

-- ---- holds in order

short_rises : (xs : List HoldRow) → length xs ≤ 1 → rises_after (map hold_entry_of xs) ≡ true
short_rises [] h = refl
short_rises (x ∷ []) h = refl
short_rises (x ∷ y ∷ xs) h = absurd (omega arith)

pub holds-all : (xs : List HoldRow) (i : ℕ) → length xs ≤ i → rises_after (map hold_entry_of (drop (i - 1) xs)) ≡ true
holds-all xs i h = short_rises (drop (i - 1) xs) (omega (arith, length-drop (i - 1) xs))

-- ---- classes that are merged with their schedules

drop_one : (xs : List ScheduleRow) → drop 1 (map rule_of xs) ≡ map rule_of (drop 1 xs)
drop_one [] = refl
drop_one (x ∷ xs) = refl

pub rest-taken : (o : Option Schedule) (rules : List ScheduleRow) (place next : ℕ) → is_some o ≡ true → next ≡ place + 1
    → rest_in o (map rule_of (drop place rules)) ≡ map rule_of (drop next rules)
rest-taken None rules place next some at = absurd (cc)
rest-taken (Some s) rules place next some at = drop_one (drop place rules) ∙ ap (map rule_of) (drop-drop 1 place rules)
    ∙ ap (λ k. map rule_of (drop k rules)) (sym at)

pub rest-left : (o : Option Schedule) (rules : List ScheduleRow) (place next : ℕ) → is_some o ≡ false → next ≡ place
    → rest_in o (map rule_of (drop place rules)) ≡ map rule_of (drop next rules)
rest-left None rules place next none at = ap (λ k. map rule_of (drop k rules)) (sym at)
rest-left (Some s) rules place next none at = absurd (cc)

pub taken-within : (o : Option Schedule) (rules : List ScheduleRow) (place next : ℕ) → is_some o ≡ true
    → OnSome o (0 < length (take (length rules - place) (drop place rules))) → next ≡ place + 1 → next ≤ length rules
taken-within None rules place next some h at = absurd (cc)
taken-within (Some s) rules place next some h at =
    let here : 0 < length (drop place rules) = subst (λ z. 0 < length z) (take_rest rules place) h in
    omega (arith, length-drop place rules)

pub left-within : (rules : List ScheduleRow) (place next : ℕ) → next ≡ place → place ≤ length rules → next ≤ length rules
left-within rules place next at h = omega arith

pub merged-next : (ps : List Part) (p : Part) (rules : List ScheduleRow) (place next : ℕ) (o : Option Schedule)
    (cs : List ClassRow) (i : ℕ) (d : ClassRow) (whole : List Row) → i < length cs
    → o ≡ own_in (map rule_of (drop place rules)) (get_or cs i d).path.items
    → rest_in o (map rule_of (drop place rules)) ≡ map rule_of (drop next rules)
    → part_row p ≡ record { path = (get_or cs i d).path.items; is_open = (get_or cs i d).is_open; schedule = o }
    → map part_row ps ++ merge (map rule_of (drop place rules)) (map class_entry_of (drop i cs)) ≡ whole
    → map part_row (ps ++ p ∷ []) ++ merge (map rule_of (drop next rules)) (map class_entry_of (drop (i + 1) cs))
    ≡ whole
merged-next ps p rules place next o cs i d whole h own tail same so =
    merged-more ps p (map rule_of (drop place rules)) (map rule_of (drop next rules)) (class_entry_of (get_or cs i d))
    (map class_entry_of (drop (i + 1) cs)) o whole own tail same
    (ap (λ z. map part_row ps ++ merge (map rule_of (drop place rules)) (map class_entry_of z)) (sym (drop_more cs i d h)) ∙ so)

-- ---- classes as a plan answers them

pub told-are : (xs : List ClassAnswer) → map answer_entry xs ≡ map entry_of_row (map answer_row xs)
told-are [] = refl
told-are (x ∷ xs) = ap (λ z. answer_entry x ∷ z) (told-are xs)
