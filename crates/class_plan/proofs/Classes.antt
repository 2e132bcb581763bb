-- A class and the file, by what each part reads.
use Rattle.std.proofs.Common.{◌≡◌, ℕ, Bool, true, false, not, ◌&&◌, ◌<◌, ◌≤◌, ◌+◌, List, [], ◌∷◌, ◌++◌, length, drop, get_or, Option, Some, None}
use Rattle.std.proofs.Common.{option_map, option_and_then, refl, ap, ◌∙◌, sym, append_assoc, append-nil, cond}
use Rattle.std.proofs.lemmas.List.{drop_all}
use Rattle.std.specs.Str.{bytes_eq}
use Rattle.toml.specs.Data.{Data, Members, as_table}
use Rattle.toml.specs.View.{view, items_view}
use Rattle.toml.specs.declared.value.Value.{Value}
use Rattle.toml.proofs.Views.{items_view-drop}
use Rattle.class_paths.specs.Path.{unfiled}
use Rattle.class_plan.specs.declared.entries.Stated.{Stated}
use Rattle.class_plan.specs.Entries.{Entry}
use Rattle.class_plan.specs.Document.{class_of, entry_of, entries_of, if_listable}

pub entry-table : (d : Data) (ms : Members) → Some ms ≡ as_table d → class_of ms ≡ entry_of d
unfolding entry_of
entry-table d ms a = rw (← a)

pub entry-other : (d : Data) → None ≡ as_table d → None ≡ entry_of d
unfolding entry_of
entry-other d a = rw (← a)

joined : (out : List Entry) (e : Entry) (x : Option (List Entry))
    → option_map (λ more. out ++ more) (option_and_then (λ es. Some (e ∷ es)) x) ≡ option_map (λ more. (out ++ e ∷ [])
    ++ more) x
joined out e None = refl
joined out e (Some es) = ap (λ xs. Some xs) (sym (append_assoc out (e ∷ []) es))

pub entries-more : (vs : List Value) (i : ℕ) (d : Value) (out : List Entry) (e : Entry) → i < length vs → Some e ≡ entry_of (view (get_or vs i d))
    → entries_of (items_view vs) ≡ option_map (λ more. out ++ more) (entries_of (items_view (drop i vs)))
    → entries_of (items_view vs) ≡ option_map (λ more. (out ++ e ∷ []) ++ more) (entries_of (items_view (drop (i + 1) vs)))
unfolding entries_of
entries-more vs i d out e h is so =
    so ∙ rw (items_view-drop vs i d h, ← is) (joined out e _)

pub entries-bad : (vs : List Value) (i : ℕ) (d : Value) (out : List Entry) → i < length vs → None ≡ entry_of (view (get_or vs i d))
    → entries_of (items_view vs) ≡ option_map (λ more. out ++ more) (entries_of (items_view (drop i vs)))
    → None ≡ entries_of (items_view vs)
unfolding entries_of
entries-bad vs i d out h is so = sym (so ∙ rw (items_view-drop vs i d h, ← is))

pub entries-all : (vs : List Value) (i : ℕ) (out : List Entry) → length vs ≤ i
    → entries_of (items_view vs) ≡ option_map (λ more. out ++ more) (entries_of (items_view (drop i vs)))
    → Some out ≡ entries_of (items_view vs)
unfolding entries_of
entries-all vs i out h so = sym (so ∙ rw (drop_all i vs h) (ap (λ xs. Some xs) (append-nil out)))

abbrev pub entry : List ℕ → Bool → Stated → Entry
entry p o t = record { path = p; is_open = o; stated = t }

pub checked-closed : (p : List ℕ) (o : Bool) (t : Stated) → bytes_eq p unfiled ≡ true → o ≡ false → None ≡ if_listable (entry p o t)
checked-closed p o t a b = rw (a, b)

open_anyway : (b : Bool) (e : Entry) → Some e ≡ cond (b && not true) None (Some e)
open_anyway true e = refl
open_anyway false e = refl

pub checked-open : (p : List ℕ) (o : Bool) (t : Stated) → o ≡ true → Some (entry p o t) ≡ if_listable (entry p o t)
checked-open p o t a = rw a (open_anyway (bytes_eq p unfiled) (entry p true t))

pub checked-other : (p : List ℕ) (o : Bool) (t : Stated) → bytes_eq p unfiled ≡ false → Some (entry p o t) ≡ if_listable (entry p o t)
checked-other p o t a = rw a
