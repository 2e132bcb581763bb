-- A shelf as its entries in memory, and as a location.
use Rattle.std.proofs.Common.{◌≡◌, ℕ, ◌<◌, ◌≤◌, List, [], ◌∷◌, ◌++◌, Bool, cond, nat_lt, Some, None, IsSome, option_map}
use Rattle.std.proofs.Common.{map, length, get_or, set, refl, sym, ap, ◌∙◌, subst, arith, position}
use Rattle.std.specs.Prelude.{find}
use Rattle.std.specs.List.{position_or_len, slice_get}
use Rattle.std.proofs.Math.ListN.{get_or-map}
use Rattle.std.proofs.lemmas.List.{map-set, length-map, map-append}
use Rattle.std.proofs.lemmas.List.Quantifiers.{position-Some}
use Rattle.std.proofs.lemmas.Option.{slice_get-map, slice_get_read}
use Rattle.sieve_library.specs.declared.shelf.Entry.{Entry}
use Rattle.sieve_library.specs.Entries.{entry_of}
use Rattle.sieve_library.specs.Libraries.{NamedScript, is_named, script_under, with_entry, IsLocation, HasNoRoom, IsFoundIn, most_scripts}
use Rattle.sieve_library.proofs.LocationLemmas.{position_or_len-map, placed, missing, there, same_name, put_there}
use Rattle.sieve_library.proofs.LocationLemmas.{put_last, named_put, location_there, location_last}

pub position-map : {X Y : Type 0} (f : X → Y) (p : Y → Bool) (xs : List X) → position p (map f xs) ≡ position (λ x. p (f x)) xs
position-map f p xs =
    let n : ℕ = position_or_len (λ x. p (f x)) xs in
    ap (λ m. cond (nat_lt m (length (map f xs))) (Some m) None) (position_or_len-map f p xs)
    ∙ ap (λ m. cond (nat_lt n m) (Some n) None) (length-map xs f)

module _ (name : List ℕ) (es : List NamedScript) where
  abbrev Missing : Type 0
  Missing = position (is_named name) es ≡ None

  pub script_missing : Missing → None ≡ script_under name es
  script_missing h = sym (missing name es h)

  pub not_there : Missing → IsSome (script_under name es) → ⊥
  not_there h some = cc (script_missing h, some)

module _ (name : List ℕ) (items : List Entry) {es : List NamedScript} (view : map entry_of items ≡ es) where
  abbrev At : ℕ → Type 0
  At i = position (is_named name) es ≡ Some i

  abbrev with_script : Entry → NamedScript
  with_script x = record { name = name; script = x.script.value.script }

  read_at : (i : ℕ) (e : Entry) → e ≡ get_or items i e → entry_of e ≡ get_or es i (entry_of e)
  read_at i e is = ap entry_of is ∙ sym (get_or-map entry_of items i e) ∙ ap (λ l. get_or l i (entry_of e)) view

  inside_items : (i : ℕ) → At i → i < length items
  inside_items i h = let long : length es ≡ length items = ap length (sym view) ∙ length-map items entry_of in
      omega (arith, long, (placed (is_named name) es i h).1)

  name_at : (i : ℕ) (e : Entry) → At i → e ≡ get_or items i e → e.name.items ≡ name
  name_at i e h is = same_name e.name.items name (ap (is_named name) (read_at i e is) ∙ (position-Some (is_named name) es i (entry_of e) h).1)

  found_at : (i : ℕ) (e : Entry) → At i → e ≡ get_or items i e → find (is_named name) es ≡ Some (entry_of e)
  found_at i e h is =
      there name es i (entry_of e) h (ap (λ l. slice_get l i) (sym view) ∙ slice_get-map entry_of items i
      ∙ ap (option_map entry_of) (slice_get_read items (length items) i e refl (inside_items i h) is))

  -- what a look-up finds
  pub script_at : {i : ℕ} {e : Entry} → At i → e ≡ get_or items i e → Some e.script.value.script ≡ script_under name es
  script_at {i} {e} h is = sym (ap (option_map (λ (x : NamedScript). x.script)) (found_at i e h is))

  -- in the place of the one that has the name
  pub replaced : {i : ℕ} {e : Entry} (x : Entry) → At i → e ≡ get_or items i e → x.name.items ≡ e.name.items
      → map entry_of (set items i x) ≡ with_entry (with_script x) es
  replaced {i} {e} x h is same =
      let at = placed (is_named name) es i h in
      let named_so : entry_of x ≡ with_script x =
      ap (λ (n : List ℕ). record { name = n; script = x.script.value.script }) (same ∙ name_at i e h is) in
      let inside : position_or_len (is_named name) es < length es = omega (arith, at.0, at.1) in
      map-set entry_of items i x ∙ ap (λ l. set l i (entry_of x)) view ∙ ap (set es i) named_so
      ∙ ap (λ n. set es n (with_script x)) (sym at.0) ∙ sym (put_there (with_script x) es inside)

  pub found_replaced : {i : ℕ} {e : Entry} (x : Entry) → At i → e ≡ get_or items i e → x.name.items ≡ e.name.items
      → IsFoundIn (with_script x) es (map entry_of (set items i x))
  found_replaced x h is same n = ap (script_under n) (replaced x h is same) ∙ named_put (with_script x) n es

  pub location_replaced : {i : ℕ} {e : Entry} (x : Entry) → At i → e ≡ get_or items i e → x.name.items ≡ e.name.items
      → IsLocation (map entry_of items) → IsLocation (map entry_of (set items i x))
  location_replaced {i} x h is same l =
      let at = placed (is_named name) es i h in
      let inside : position_or_len (is_named name) es < length es = omega (arith, at.0, at.1) in
      subst IsLocation (sym (replaced x h is same)) (location_there (with_script x) es inside (subst IsLocation view l))

  pub has_room : {i : ℕ} {e : Entry} → At i → e ≡ get_or items i e → HasNoRoom es name → ⊥
  has_room h is full = cc (script_at h is, full.missing)

  -- after all others
  pub added : (x : Entry) → Missing name es → x.name.items ≡ name → map entry_of (items ++ x ∷ []) ≡ with_entry (with_script x) es
  added x h same =
      let named_so : entry_of x ≡ with_script x = ap (λ (n : List ℕ). record { name = n; script = x.script.value.script }) same in
      map-append entry_of items (x ∷ []) ∙ ap (λ l. l ++ entry_of x ∷ []) view
      ∙ ap (λ (z : NamedScript). es ++ z ∷ []) named_so
      ∙ sym (put_last (with_script x) es (sym (script_missing name es h)))

  pub found_added : (x : Entry) → Missing name es → x.name.items ≡ name → IsFoundIn (with_script x) es (map entry_of (items ++ x ∷ []))
  found_added x h same n = ap (script_under n) (added x h same) ∙ named_put (with_script x) n es

  pub location_added : (x : Entry) → Missing name es → x.name.items ≡ name → length items < most_scripts
      → IsLocation (map entry_of items) → IsLocation (map entry_of (items ++ x ∷ []))
  location_added x h same few l =
      let room : length es < most_scripts = let long : length es ≡ length items = ap length (sym view)
      ∙ length-map items entry_of in omega (arith, long, few) in
      subst IsLocation (sym (added x h same)) (location_last (with_script x) es (sym (script_missing name es h)) room (subst IsLocation view l))

  pub no_room : Missing name es → most_scripts ≤ length items → IsLocation (map entry_of items) → HasNoRoom es name
  no_room h many l =
      let long : length es ≡ length items = ap length (sym view) ∙ length-map items entry_of in
      let few : length es ≤ most_scripts = (subst IsLocation view l).few in
      record { full = omega (arith, long, many, few); missing = sym (script_missing name es h) }
