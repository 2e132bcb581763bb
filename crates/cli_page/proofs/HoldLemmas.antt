-- A map of holds, and the numbers that it has under a name.
use Rattle.std.proofs.Common.{◌≡◌, ℕ, ◌+◌, ◌-◌, ◌^◌, ◌<◌, ◌≤◌, suc, zero, min, Bool, true, false, cond, List, [], ◌∷◌, ◌++◌, length, get_or, drop}
use Rattle.std.proofs.Common.{Option, Some, None, Vec, Global, Ordering, Less, Equal, Greater, nat_cmp, refl, sym, ap, ◌∙◌, subst, append-nil}
use Rattle.std.proofs.Common.{append_assoc, arith, length-append}
use Rattle.std.proofs.Math.ListN.{drop_of_length-le}
use Rattle.std.proofs.lemmas.List.{drop_more}
use Rattle.std.proofs.lemmas.Map.Text.{is_eq-slice_cmp}
use Rattle.std.proofs.lemmas.Slice.Eq.{bytes_eq-Decides}
use Rattle.std.specs.Str.{bytes_eq}
use Rattle.std.specs.Cmp.Lexicographic.{slice_cmp}
use Rattle.std.specs.Map.{lookup, set_value}
use Rattle.std.specs.BTreeMap.{is_at, insert_entry}
use Rattle.std.specs.Ordering.{is_eq, match_ordering}
use Rattle.cli_page.specs.declared.holds.Stretch.{Stretch}
use Rattle.cli_page.specs.KeptNumbers.{Entry, Number, count_up, numbers_in, numbers_of, kept_by, number_for, numbers_for, KeepsOneMore}

-- how a look-up by a name compares it to a key
abbrev pub compare : (name : List ℕ) → Vec ℕ Global → Ordering
compare name k = slice_cmp nat_cmp name k.items

-- how keys compare to one another
abbrev pub cmp_names : Vec ℕ Global → Vec ℕ Global → Ordering
cmp_names x y = slice_cmp nat_cmp x.items y.items

same_name : (a b : List ℕ) → bytes_eq a b ≡ true → a ≡ b
same_name a b h = (bytes_eq-Decides a b).0 h

module _ (hold : List ℕ) where
  none_or : (b : Bool) (x : Vec Stretch Global) (rest : Option (Vec Stretch Global)) (old : List Number) → (rest ≡ None → old ≡ [])
      → cond b (Some x) rest ≡ None → cond b (numbers_of x.items) old ≡ []
  none_or true x rest old ih h = absurd (cc h)
  none_or false x rest old ih h = ih h

  -- where nothing is found, nothing is kept
  none_is : (es : List Entry) → lookup (is_at (compare hold)) es ≡ None → kept_by hold es ≡ []
  none_is [] h = refl
  none_is (e ∷ es) h =
      none_or (bytes_eq hold e.0.items) e.1 (lookup (is_at (compare hold)) es) (kept_by hold es) (none_is es)
      (subst (λ (b : Bool). cond b (Some e.1) (lookup (is_at (compare hold)) es) ≡ None) (is_eq-slice_cmp hold e.0.items) h)

  -- and nothing in what follows
  none_after : (b : Bool) (x : Vec Stretch Global) (rest : Option (Vec Stretch Global)) → cond b (Some x) rest ≡ None → rest ≡ None
  none_after true x rest h = absurd (cc h)
  none_after false x rest h = h

module _ (hold name : List ℕ) (n : Number) where
  -- one number more, where the test says so
  abbrev More : Bool → List Number → List Number
  More b old = old ++ cond b (n ∷ []) []

  other_stays : (t : Bool) (x new old : List Number) → new ≡ old ++ [] → cond t x new ≡ cond t x old ++ []
  other_stays true x new old h = sym (append-nil x)
  other_stays false x new old h = h

  -- the first test says whether the entry has the hold's name, the second whether the two names are equal
  set_at : (a b : Bool) (e : Entry) (es new : List Entry) (rest : Option (Vec Stretch Global)) (p w : Vec Stretch Global)
      → bytes_eq hold e.0.items ≡ a → bytes_eq name hold ≡ b → numbers_of w.items ≡ numbers_of p.items ++ n ∷ []
      → (rest ≡ Some p → kept_by name new ≡ More b (kept_by name es)) → cond a (Some e.1) rest ≡ Some p
      → kept_by name (cond a ((e.0, w) ∷ es) (e ∷ new)) ≡ More b (kept_by name (e ∷ es))
  set_at true true e es new rest p w is same more ih h =
      let here : bytes_eq name e.0.items ≡ true = ap (bytes_eq name) (sym (same_name hold e.0.items is)) ∙ same in
      let found : e.1 ≡ p = cc in
      rw here (more ∙ ap (λ (x : Vec Stretch Global). numbers_of x.items ++ n ∷ []) (sym found))
  set_at true false e es new rest p w is same more ih h =
      let apart : bytes_eq name e.0.items ≡ false = ap (bytes_eq name) (sym (same_name hold e.0.items is)) ∙ same in
      rw apart (sym (append-nil (kept_by name es)))
  set_at false true e es new rest p w is same more ih h =
      let apart : bytes_eq name e.0.items ≡ false = ap (λ (x : List ℕ). bytes_eq x e.0.items) (same_name name hold same) ∙ is in
      rw apart (ih h)
  set_at false false e es new rest p w is same more ih h =
      other_stays (bytes_eq name e.0.items) (numbers_of e.1.items) (kept_by name new) (kept_by name es) (ih h)

  set_gives : (es : List Entry) (p w : Vec Stretch Global) → lookup (is_at (compare hold)) es ≡ Some p
      → numbers_of w.items ≡ numbers_of p.items ++ n ∷ []
      → kept_by name (set_value (is_at (compare hold)) es w) ≡ More (bytes_eq name hold) (kept_by name es)
  set_gives [] p w h more = absurd (cc h)
  set_gives (e ∷ es) p w h more =
      let at = is_eq-slice_cmp hold e.0.items in
      subst (λ (a : Bool). kept_by name (cond a ((e.0, w) ∷ es) (e ∷ set_value (is_at (compare hold)) es w))
      ≡ More (bytes_eq name hold) (kept_by name (e ∷ es))) (sym at)
      (set_at (bytes_eq hold e.0.items) (bytes_eq name hold) e es (set_value (is_at (compare hold)) es w)
      (lookup (is_at (compare hold)) es) p w refl refl more (λ k. set_gives es p w k more)
      (subst (λ (a : Bool). cond a (Some e.1) (lookup (is_at (compare hold)) es) ≡ Some p) at h))

  -- a new hold before the others
  in_front : (c : Bool) (x old : List Number) → x ≡ n ∷ [] → (c ≡ true → old ≡ []) → cond c x old ≡ More c old
  in_front true x old is none = is ∙ ap (λ (o : List Number). o ++ n ∷ []) (sym (none refl))
  in_front false x old is none = sym (append-nil old)

  -- a new hold after this one: the first test says whether the entry has the name, the second whether the two names are equal
  behind : (a b : Bool) (x new old : List Number) → (a ≡ true → b ≡ false) → new ≡ More b old → cond a x new ≡ More b (cond a x old)
  behind true true x new old apart h = absurd (cc (apart refl))
  behind true false x new old apart h = sym (append-nil x)
  behind false b x new old apart h = h

  insert_at : (o : Ordering) (e : Entry) (es new : List Entry) (k : Vec ℕ Global) (v : Vec Stretch Global)
      → slice_cmp nat_cmp k.items e.0.items ≡ o → k.items ≡ hold → numbers_of v.items ≡ n ∷ []
      → lookup (is_at (compare hold)) (e ∷ es) ≡ None → kept_by name new ≡ More (bytes_eq name hold) (kept_by name es)
      → kept_by name (match_ordering o ((k, v) ∷ e ∷ es) ((e.0, v) ∷ es) (e ∷ new)) ≡ More (bytes_eq name hold) (kept_by name (e ∷ es))
  insert_at Less e es new k v is key one none ih =
      let nothing : bytes_eq name hold ≡ true → kept_by name (e ∷ es) ≡ [] =
      λ same. ap (λ (x : List ℕ). kept_by x (e ∷ es)) (same_name name hold same) ∙ none_is hold (e ∷ es) none in
      rw key (in_front (bytes_eq name hold) (numbers_of v.items) (kept_by name (e ∷ es)) one nothing)
  insert_at Equal e es new k v is key one none ih =
      let at : is_at (compare hold) e.0 ≡ true = ap (λ (x : List ℕ). is_eq (slice_cmp nat_cmp x e.0.items)) (sym key) ∙ ap is_eq is in
      let found : Some e.1 ≡ None = ap (λ (b : Bool). cond b (Some e.1) (lookup (is_at (compare hold)) es)) (sym at) ∙ none in
      absurd (cc found)
  insert_at Greater e es new k v is key one none ih =
      let at : bytes_eq hold e.0.items ≡ false = ap (λ (x : List ℕ). bytes_eq x e.0.items) (sym key)
      ∙ sym (is_eq-slice_cmp k.items e.0.items) ∙ ap is_eq is in
      let apart : bytes_eq name e.0.items ≡ true → bytes_eq name hold ≡ false =
      λ there. ap (λ (x : List ℕ). bytes_eq x hold) (same_name name e.0.items there) ∙ other_way e.0.items hold at in
      behind (bytes_eq name e.0.items) (bytes_eq name hold) (numbers_of e.1.items) (kept_by name new) (kept_by name es) apart ih
    where
      other_way : (x y : List ℕ) → bytes_eq y x ≡ false → bytes_eq x y ≡ false
      other_way x y h = go (bytes_eq x y) refl
        where
          go : (b : Bool) → bytes_eq x y ≡ b → bytes_eq x y ≡ false
          go false e = e
          go true e =
              let same : x ≡ y = same_name x y e in
              let back : bytes_eq y x ≡ true = ap (λ (z : List ℕ). bytes_eq y z) same ∙ (ap (λ (z : List ℕ). bytes_eq z y) (sym same) ∙ e) in
              let f : true ≡ false = sym back ∙ h in absurd (cc f)

  insert_gives : (es : List Entry) (k : Vec ℕ Global) (v : Vec Stretch Global) → k.items ≡ hold → numbers_of v.items ≡ n ∷ []
      → lookup (is_at (compare hold)) es ≡ None
      → kept_by name (insert_entry cmp_names es k v) ≡ More (bytes_eq name hold) (kept_by name es)
  insert_gives [] k v key one none = rw key (in_front (bytes_eq name hold) (numbers_of v.items) [] one (λ _. refl))
  insert_gives (e ∷ es) k v key one none =
      insert_at (slice_cmp nat_cmp k.items e.0.items) e es _ k v refl key one none
      (insert_gives es k v key one (none_after hold (is_at (compare hold) e.0) e.1 (lookup (is_at (compare hold)) es) none))

-- the hold that was found keeps one more
pub kept_there : (hold : List ℕ) (n : Number) (es new : List Entry) (p w : Vec Stretch Global) → lookup (is_at (compare hold)) es ≡ Some p
    → new ≡ set_value (is_at (compare hold)) es w → numbers_of w.items ≡ numbers_of p.items ++ n ∷ [] → KeepsOneMore hold n es new
kept_there hold n es new p w found is more = λ name. ap (kept_by name) is ∙ set_gives hold name n es p w found more

-- a hold is added
pub kept_new : (hold : List ℕ) (n : Number) (es new : List Entry) (k : Vec ℕ Global) (v : Vec Stretch Global)
    → lookup (is_at (compare hold)) es ≡ None → new ≡ insert_entry cmp_names es k v → k.items ≡ hold
    → numbers_of v.items ≡ n ∷ [] → KeepsOneMore hold n es new
kept_new hold n es new k v none is key one = λ name. ap (kept_by name) is ∙ insert_gives hold name n es k v key one none

-- ---- one hold after the other

pub held_next : (name hold : List ℕ) (rest : List (List ℕ)) (n : Number) (old new : List Entry) → KeepsOneMore hold n old new
    → kept_by name new ++ numbers_for name rest n ≡ kept_by name old ++ numbers_for name (hold ∷ rest) n
held_next name hold rest n old new h = rw (h name) (append_assoc (kept_by name old) (number_for name hold n) (numbers_for name rest n))

-- ---- how many numbers

length_count_up : (v : Option ℕ) (f n : ℕ) → length (count_up v f n) ≡ n
length_count_up v f zero = refl
length_count_up v f (suc n) = ap suc (length_count_up v (f + 1) n)

-- a stretch more
pub count_next : (count more next : ℕ) (s : Stretch) (rest : List Stretch) → more ≡ s.more → next ≡ min (count + (more + 1)) (2 ^ 64 - 1)
    → min (next + length (numbers_of rest)) (2 ^ 64 - 1) ≡ min (count + length (numbers_of (s ∷ rest))) (2 ^ 64 - 1)
count_next count more next s rest is e =
    let one : length (numbers_of (s ∷ rest)) ≡ suc more + length (numbers_of rest) =
    length-append (numbers_in s) (numbers_of rest)
    ∙ ap (λ (k : ℕ). k + length (numbers_of rest)) (length_count_up s.volume s.first (suc s.more) ∙ ap suc (sym is)) in
    omega (arith, one, e)

-- the stretch at a place
pub count_step : (xs : List Stretch) (i count more next all : ℕ) (d : Stretch) → i < length xs → more ≡ (get_or xs i d).more
    → next ≡ min (count + (more + 1)) (2 ^ 64 - 1) → min (count + length (numbers_of (drop i xs))) (2 ^ 64 - 1) ≡ all
    → min (next + length (numbers_of (drop (i + 1) xs))) (2 ^ 64 - 1) ≡ all
count_step xs i count more next all d lt is e h =
    count_next count more next (get_or xs i d) (drop (i + 1) xs) is e
    ∙ (ap (λ (ys : List Stretch). min (count + length (numbers_of ys)) (2 ^ 64 - 1)) (sym (drop_more xs i d lt)) ∙ h)

pub count_fits : (n next : ℕ) → next ≡ min n (2 ^ 64 - 1) → next ≤ 2 ^ 64 - 1
count_fits n next e = omega (arith, e)

pub count_end : (xs : List Stretch) (i count all : ℕ) → length xs ≤ i → count ≤ 2 ^ 64 - 1
    → min (count + length (numbers_of (drop i xs))) (2 ^ 64 - 1) ≡ all → count ≡ all
count_end xs i count all end fits h =
    let none : numbers_of (drop i xs) ≡ [] = ap numbers_of (drop_of_length-le xs end) in
    let last : min (count + 0) (2 ^ 64 - 1) ≡ all = ap (λ (ns : List Number). min (count + length ns) (2 ^ 64 - 1)) (sym none) ∙ h in
    omega (arith, fits, last)
