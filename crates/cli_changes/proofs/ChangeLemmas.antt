-- What a new plan changes, one record after the other.
use Rattle.std.proofs.Common.{◌≡◌, ℕ, ◌+◌, ◌-◌, ◌^◌, ◌≤◌, ◌==◌, ◌&&◌, min, not, Bool, true, false, cond, ℤ, pos}
use Rattle.std.proofs.Common.{List, [], ◌∷◌, count_by, length, Vec, Global, Ordering, Less, Equal, Greater, nat_cmp}
use Rattle.std.proofs.Common.{Option, Some, None, option_map, refl, sym, ap, ◌∙◌, subst, arith}
use Rattle.std.proofs.lemmas.List.{length-map}
use Rattle.std.proofs.lemmas.List.Sums.{sum_by-cons}
use Rattle.std.proofs.lemmas.Map.Text.{is_eq-slice_cmp}
use Rattle.std.proofs.lemmas.Slice.Eq.{bytes_eq-Decides}
use Rattle.std.specs.Str.{bytes_eq}
use Rattle.std.specs.Cmp.Lexicographic.{slice_cmp}
use Rattle.std.specs.Map.{lookup, set_value}
use Rattle.std.specs.BTreeMap.{is_at, insert_entry}
use Rattle.std.specs.Ordering.{is_eq, match_ordering}
use Rattle.jiff.specs.Words.{epoch_day}
use Rattle.jiff_core.specs.declared.civil.date.Date.{Date}
use Rattle.class_plan.specs.Plans.{Listing, schedule_at}
use Rattle.class_plan.specs.declared.schedules.Schedule.{Schedule}
use Rattle.record_archive.specs.Archive.{destroys}
use Rattle.record_choice.specs.Entries.{RecordEntry, entry_view}
use Rattle.record_choice.specs.Views.{shows_due}
use Rattle.record_choice.specs.declared.entry.RecordEntry as own
use Rattle.cli_console.specs.Days.{is_by}
use Rattle.cli_texts.specs.DueDays.{due_by_plan}
use Rattle.cli_changes.specs.declared.due_today.DueToday.{DueToday}
use Rattle.cli_changes.specs.declared.plan_changes.Changes.{Changes}
use Rattle.cli_changes.specs.declared.plan_changes.PlanChanges.{PlanChanges}
use Rattle.cli_console.specs.Counts.{counted}
use Rattle.cli_changes.specs.DueToday.{is_due_in, may_go_in, with_entry, with_record}
use Rattle.cli_changes.specs.PlanChanges.{is_same_due, moves, due_today, figures, no_changes, changes_in, in_class, AreChanges}
use Rattle.cli_changes.specs.PlanChanges.{with_change, with_changes, CountAlso}

-- a due date that a date shows
pub by_shown : (due : Option Date) (day : Date) → is_by due day ≡ shows_due (option_map epoch_day due) (epoch_day day)
by_shown None day = refl
by_shown (Some due) day = refl

-- a record is counted by the due date and the schedule that a plan gives it
pub record_is : (plan : Listing) (path : List ℕ) (today : Date) (e : own.RecordEntry) (due : Option Date) (schedule : Option Schedule)
    (held : Bool) (counts : DueToday) → option_map epoch_day due ≡ option_map pos (due_by_plan plan path (epoch_day e.day))
    → schedule ≡ schedule_at plan path → held ≡ not (length e.holds.items == 0)
    → with_record due schedule held today counts ≡ with_entry plan path (epoch_day today) (entry_view e) counts
record_is plan path today e due schedule held counts shown same kept =
    let by : is_by due today ≡ is_due_in plan path (epoch_day today) (entry_view e) =
    by_shown due today ∙ ap (λ d. shows_due d (epoch_day today)) shown in
    let names = kept ∙ ap (λ (n : ℕ). not (n == 0)) (sym (length-map e.holds.items (λ n. n.items))) in
    λ i. record {
      all = counted (by i) counts.all;
      destroyable = counted (by i && (destroys (same i) && not (names i))) counts.destroyable;
    }

-- what a plan changes for a record, by its new due date
pub change_is : (present new : Listing) (today : Date) (e : own.RecordEntry) (path : List ℕ) (due : Option Date) (same : Bool) (moved : ℕ)
    (before after : DueToday) (c : Changes) → path ≡ e.path.items
    → option_map epoch_day due ≡ option_map pos (due_by_plan new path (epoch_day e.day))
    → same ≡ is_same_due (option_map epoch_day due) (option_map epoch_day e.due) → moved ≡ counted (not same) c.moved
    → before ≡ with_entry present path (epoch_day today) (entry_view e) c.before
    → after ≡ with_entry new path (epoch_day today) (entry_view e) c.after
    → record { moved = moved; before = before; after = after } ≡ with_change present new (epoch_day today) (entry_view e) c
change_is present new today e path due same moved before after c at shown is_same more was is =
    let by_plan = shown ∙ ap (λ q. option_map pos (due_by_plan new q (epoch_day e.day))) at in
    let moves_now = is_same ∙ ap (λ d. is_same_due d (option_map epoch_day e.due)) by_plan in
    let all = more ∙ ap (λ b. counted (not b) c.moved) moves_now in
    let old_due = was ∙ ap (λ q. with_entry present q (epoch_day today) (entry_view e) c.before) at in
    let new_due = is ∙ ap (λ q. with_entry new q (epoch_day today) (entry_view e) c.after) at in
    λ i. record { moved = all i; before = old_due i; after = new_due i }

-- ---- the figures

abbrev top : ℕ
top = 2 ^ 64 - 1

count_next : {X : Type 0} (is_so : X → Bool) (x : X) (xs : List X) → cond (is_so x) 1 0 + count_by is_so xs ≡ count_by is_so (x ∷ xs)
count_next is_so x xs = sym (sum_by-cons (λ y. cond (is_so y) 1 0) x xs)

counted_then : (b : Bool) (n k : ℕ) → min (counted b n + k) top ≡ min (n + (cond b 1 0 + k)) top
counted_then true n k = omega arith
counted_then false n k = omega arith

counted_fits : (b : Bool) (n : ℕ) → n ≤ top → counted b n ≤ top
counted_fits true n fits = omega arith
counted_fits false n fits = fits

none_more : (n : ℕ) → n ≤ top → n ≡ min (n + 0) top
none_more n fits = omega (arith, fits)

from_none : (n : ℕ) → min (0 + n) top ≡ min n top
from_none n = omega arith

module _ (present new : Listing) (today : ℤ) where
  abbrev Fits : Changes → Type 0
  Fits c = (c.moved ≤ top) × (c.before.all ≤ top) × (c.before.destroyable ≤ top) × (c.after.all ≤ top) × (c.after.destroyable ≤ top)

  -- so many more of some records
  abbrev more : (RecordEntry → Bool) → List RecordEntry → ℕ → ℕ
  more is_so es n = min (n + count_by is_so es) top

  abbrev more_due : Listing → List RecordEntry → DueToday → DueToday
  more_due plan es d = record {
    all = more (λ (e : RecordEntry). is_due_in plan e.path today e) es d.all;
    destroyable = more (λ (e : RecordEntry). may_go_in plan e.path today e) es d.destroyable;
  }

  abbrev all_more : List RecordEntry → Changes → Changes
  all_more es c = record {
    moved = more (moves new) es c.moved;
    before = more_due present es c.before;
    after = more_due new es c.after;
  }

  next_counted : (is_so : RecordEntry → Bool) (e : RecordEntry) (es : List RecordEntry) (n : ℕ)
      → more is_so es (counted (is_so e) n) ≡ more is_so (e ∷ es) n
  next_counted is_so e es n =
      counted_then (is_so e) n (count_by is_so es) ∙ ap (λ k. min (n + k) top) (count_next is_so e es)

  due_then : (plan : Listing) (e : RecordEntry) (es : List RecordEntry) (d : DueToday)
      → more_due plan es (with_entry plan e.path today e d) ≡ more_due plan (e ∷ es) d
  due_then plan e es d =
      let due = λ (x : RecordEntry). is_due_in plan x.path today x in
      let free = λ (x : RecordEntry). may_go_in plan x.path today x in
      let all = next_counted due e es d.all in
      let gone = next_counted free e es d.destroyable in
      λ i. record { all = all i; destroyable = gone i }

  change_fits : (e : RecordEntry) (c : Changes) → Fits c → Fits (with_change present new today e c)
  change_fits e c fits = (
    counted_fits (moves new e) c.moved fits.0,
    counted_fits (is_due_in present e.path today e) c.before.all fits.1,
    counted_fits (may_go_in present e.path today e) c.before.destroyable fits.2,
    counted_fits (is_due_in new e.path today e) c.after.all fits.3,
    counted_fits (may_go_in new e.path today e) c.after.destroyable fits.4,
  )

  all_counted : (es : List RecordEntry) (c : Changes) → Fits c → with_changes present new today es c ≡ all_more es c
  all_counted [] c fits = λ i. record {
    moved = none_more c.moved fits.0 i;
    before = record { all = none_more c.before.all fits.1 i; destroyable = none_more c.before.destroyable fits.2 i };
    after = record { all = none_more c.after.all fits.3 i; destroyable = none_more c.after.destroyable fits.4 i };
  }
  all_counted (e ∷ es) c fits =
      let moved = next_counted (moves new) e es c.moved in
      let before = due_then present e es c.before in
      let after = due_then new e es c.after in
      let next : all_more es (with_change present new today e c) ≡ all_more (e ∷ es) c =
      λ i. record { moved = moved i; before = before i; after = after i } in
      all_counted es (with_change present new today e c) (change_fits e c fits) ∙ next

  due_from_none : (plan : Listing) (es : List RecordEntry)
      → more_due plan es (record { all = 0; destroyable = 0 }) ≡ due_today plan today es
  due_from_none plan es =
      let all = from_none (count_by (λ (x : RecordEntry). is_due_in plan x.path today x) es) in
      let gone = from_none (count_by (λ (x : RecordEntry). may_go_in plan x.path today x) es) in
      λ i. record { all = all i; destroyable = gone i }

  -- counted from nothing on, the figures are those of the records
  from_nothing : (es : List RecordEntry) → with_changes present new today es no_changes ≡ figures present new today es
  from_nothing es =
      let moved = from_none (count_by (moves new) es) in
      let before = due_from_none present es in
      let after = due_from_none new es in
      let same : all_more es no_changes ≡ figures present new today es = λ i. record { moved = moved i; before = before i; after = after i } in
      all_counted es no_changes (omega arith, omega arith, omega arith, omega arith, omega arith) ∙ same

  -- all that was counted from nothing on
  pub all_changes : (es : List RecordEntry) (was is : PlanChanges) → was.all ≡ no_changes → was.by_class.entries ≡ []
      → CountAlso present new today es was is → AreChanges present new today es is
  all_changes es was is none nowhere counted = record {
    all = counted.all ∙ ap (with_changes present new today es) none ∙ from_nothing es;
    by_class = λ path.
        counted.by_class path ∙ ap (λ l. with_changes present new today (in_class path es) (changes_in path l)) nowhere
        ∙ from_nothing (in_class path es);
  }

-- ---- a record more in its class

abbrev Entry : Type 0
Entry = Vec ℕ Global × Changes

-- how a look-up by a path compares it to a key
abbrev pub compare : (path : List ℕ) → Vec ℕ Global → Ordering
compare path k = slice_cmp nat_cmp path k.items

-- how keys compare to one another
abbrev pub cmp_paths : Vec ℕ Global → Vec ℕ Global → Ordering
cmp_paths x y = slice_cmp nat_cmp x.items y.items

same_path : (a b : List ℕ) → bytes_eq a b ≡ true → a ≡ b
same_path a b h = (bytes_eq-Decides a b).0 h

other_way : (x y : List ℕ) → bytes_eq y x ≡ false → bytes_eq x y ≡ false
other_way x y h = go (bytes_eq x y) refl
  where
    go : (b : Bool) → bytes_eq x y ≡ b → bytes_eq x y ≡ false
    go false e = e
    go true e =
        let same : x ≡ y = same_path x y e in
        let back : bytes_eq y x ≡ true = ap (λ (z : List ℕ). bytes_eq y z) same ∙ (ap (λ (z : List ℕ). bytes_eq z y) (sym same) ∙ e) in
        let f : true ≡ false = sym back ∙ h in absurd (cc f)

module _ (class : List ℕ) where
  none_or : (b : Bool) (x : Changes) (rest : Option Changes) (old : Changes) → (rest ≡ None → old ≡ no_changes)
      → cond b (Some x) rest ≡ None → cond b x old ≡ no_changes
  none_or true x rest old ih h = absurd (cc h)
  none_or false x rest old ih h = ih h

  -- where nothing is found, nothing is noted
  none_is : (es : List Entry) → lookup (is_at (compare class)) es ≡ None → changes_in class es ≡ no_changes
  none_is [] h = refl
  none_is (e ∷ es) h =
      none_or (bytes_eq class e.0.items) e.1 (lookup (is_at (compare class)) es) (changes_in class es) (none_is es)
      (subst (λ (b : Bool). cond b (Some e.1) (lookup (is_at (compare class)) es) ≡ None) (is_eq-slice_cmp class e.0.items) h)

  none_after : (b : Bool) (x : Changes) (rest : Option Changes) → cond b (Some x) rest ≡ None → rest ≡ None
  none_after true x rest h = absurd (cc h)
  none_after false x rest h = h

module _ (class path : List ℕ) (f : Changes → Changes) where
  -- one record more, where the test says so
  abbrev More : Bool → Changes → Changes
  More b c = cond b (f c) c

  -- the first test says whether the entry has the record's class, the second whether the path is that class
  set_at : (a b : Bool) (e : Entry) (es new : List Entry) (rest : Option Changes) (p w : Changes)
      → bytes_eq class e.0.items ≡ a → bytes_eq path class ≡ b → w ≡ f p
      → (rest ≡ Some p → changes_in path new ≡ More b (changes_in path es)) → cond a (Some e.1) rest ≡ Some p
      → changes_in path (cond a ((e.0, w) ∷ es) (e ∷ new)) ≡ More b (changes_in path (e ∷ es))
  set_at true true e es new rest p w is same more ih h =
      let here : bytes_eq path e.0.items ≡ true = ap (bytes_eq path) (sym (same_path class e.0.items is)) ∙ same in
      let found : e.1 ≡ p = cc in
      rw here (more ∙ ap f (sym found))
  set_at true false e es new rest p w is same more ih h =
      let apart : bytes_eq path e.0.items ≡ false = ap (bytes_eq path) (sym (same_path class e.0.items is)) ∙ same in
      rw apart refl
  set_at false true e es new rest p w is same more ih h =
      let apart : bytes_eq path e.0.items ≡ false = ap (λ (x : List ℕ). bytes_eq x e.0.items) (same_path path class same) ∙ is in
      rw apart (ih h)
  set_at false false e es new rest p w is same more ih h = ap (cond (bytes_eq path e.0.items) e.1) (ih h)

  set_gives : (es : List Entry) (p w : Changes) → lookup (is_at (compare class)) es ≡ Some p → w ≡ f p
      → changes_in path (set_value (is_at (compare class)) es w) ≡ More (bytes_eq path class) (changes_in path es)
  set_gives [] p w h more = absurd (cc h)
  set_gives (e ∷ es) p w h more =
      let at = is_eq-slice_cmp class e.0.items in
      subst (λ (a : Bool). changes_in path (cond a ((e.0, w) ∷ es) (e ∷ set_value (is_at (compare class)) es w))
      ≡ More (bytes_eq path class) (changes_in path (e ∷ es))) (sym at)
      (set_at (bytes_eq class e.0.items) (bytes_eq path class) e es (set_value (is_at (compare class)) es w)
      (lookup (is_at (compare class)) es) p w refl refl more (λ k. set_gives es p w k more)
      (subst (λ (a : Bool). cond a (Some e.1) (lookup (is_at (compare class)) es) ≡ Some p) at h))

  -- a new class before the others
  in_front : (c : Bool) (x old : Changes) → x ≡ f no_changes → (c ≡ true → old ≡ no_changes) → cond c x old ≡ More c old
  in_front true x old is none = is ∙ ap f (sym (none refl))
  in_front false x old is none = refl

  -- a new class after this one: the first test says whether the entry has the path, the second whether the path is the class
  behind : (a b : Bool) (x new old : Changes) → (a ≡ true → b ≡ false) → new ≡ More b old → cond a x new ≡ More b (cond a x old)
  behind true true x new old apart h = absurd (cc (apart refl))
  behind true false x new old apart h = refl
  behind false b x new old apart h = h

  insert_at : (o : Ordering) (e : Entry) (es new : List Entry) (k : Vec ℕ Global) (v : Changes)
      → slice_cmp nat_cmp k.items e.0.items ≡ o → k.items ≡ class → v ≡ f no_changes
      → lookup (is_at (compare class)) (e ∷ es) ≡ None → changes_in path new ≡ More (bytes_eq path class) (changes_in path es)
      → changes_in path (match_ordering o ((k, v) ∷ e ∷ es) ((e.0, v) ∷ es) (e ∷ new)) ≡ More (bytes_eq path class) (changes_in path (e ∷ es))
  insert_at Less e es new k v is key one none ih =
      let nothing : bytes_eq path class ≡ true → changes_in path (e ∷ es) ≡ no_changes =
      λ same. ap (λ (x : List ℕ). changes_in x (e ∷ es)) (same_path path class same) ∙ none_is class (e ∷ es) none in
      rw key (in_front (bytes_eq path class) v (changes_in path (e ∷ es)) one nothing)
  insert_at Equal e es new k v is key one none ih =
      let at : is_at (compare class) e.0 ≡ true = ap (λ (x : List ℕ). is_eq (slice_cmp nat_cmp x e.0.items)) (sym key) ∙ ap is_eq is in
      let found : Some e.1 ≡ None = ap (λ (b : Bool). cond b (Some e.1) (lookup (is_at (compare class)) es)) (sym at) ∙ none in
      absurd (cc found)
  insert_at Greater e es new k v is key one none ih =
      let at : bytes_eq class e.0.items ≡ false = ap (λ (x : List ℕ). bytes_eq x e.0.items) (sym key)
      ∙ sym (is_eq-slice_cmp k.items e.0.items) ∙ ap is_eq is in
      let apart : bytes_eq path e.0.items ≡ true → bytes_eq path class ≡ false =
      λ there. ap (λ (x : List ℕ). bytes_eq x class) (same_path path e.0.items there) ∙ other_way e.0.items class at in
      behind (bytes_eq path e.0.items) (bytes_eq path class) e.1 (changes_in path new) (changes_in path es) apart ih

  insert_gives : (es : List Entry) (k : Vec ℕ Global) (v : Changes) → k.items ≡ class → v ≡ f no_changes
      → lookup (is_at (compare class)) es ≡ None
      → changes_in path (insert_entry cmp_paths es k v) ≡ More (bytes_eq path class) (changes_in path es)
  insert_gives [] k v key one none = rw key (in_front (bytes_eq path class) v no_changes one (λ _. refl))
  insert_gives (e ∷ es) k v key one none =
      insert_at (slice_cmp nat_cmp k.items e.0.items) e es _ k v refl key one none
      (insert_gives es k v key one (none_after class (is_at (compare class) e.0) e.1 (lookup (is_at (compare class)) es) none))

module _ (present new : Listing) (today : ℤ) (e : RecordEntry) where
  one_record : (b : Bool) (c : Changes)
      → cond b (with_change present new today e c) c ≡ with_changes present new today (cond b (e ∷ []) []) c
  one_record true c = refl
  one_record false c = refl

  abbrev Adds : List Entry → List Entry → Type 0
  Adds es more = (path : List ℕ) → changes_in path more ≡ with_changes present new today (in_class path (e ∷ [])) (changes_in path es)

  -- the class was there
  pub changed_there : (class : List ℕ) (es more : List Entry) (p w : Changes) → class ≡ e.path → lookup (is_at (compare class)) es ≡ Some p
      → more ≡ set_value (is_at (compare class)) es w → w ≡ with_change present new today e p → Adds es more
  changed_there class es more p w at found is change = λ path.
      let there = subst (λ q. lookup (is_at (compare q)) es ≡ Some p) at found in
      let set = subst (λ q. more ≡ set_value (is_at (compare q)) es w) at is in
      ap (changes_in path) set ∙ set_gives e.path path (with_change present new today e) es p w there change
      ∙ one_record (bytes_eq path e.path) (changes_in path es)

  -- the class is new
  pub changed_new : (class : List ℕ) (es more : List Entry) (k : Vec ℕ Global) (v : Changes) → class ≡ e.path
      → lookup (is_at (compare class)) es ≡ None → more ≡ insert_entry cmp_paths es k v → k.items ≡ e.path
      → v ≡ with_change present new today e no_changes → Adds es more
  changed_new class es more k v at none is key change = λ path.
      let nowhere = subst (λ q. lookup (is_at (compare q)) es ≡ None) at none in
      ap (changes_in path) is ∙ insert_gives e.path path (with_change present new today e) es k v key change nowhere
      ∙ one_record (bytes_eq path e.path) (changes_in path es)
