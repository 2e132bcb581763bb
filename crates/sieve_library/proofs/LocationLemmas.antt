-- What a location has at each name, and what putting a script there changes.
use Rattle.std.proofs.Common.{◌≡◌, ℕ, suc, ◌+◌, ◌<◌, ◌≤◌, List, [], ◌∷◌, ◌++◌, Bool, true, false, not, cond, Some, None}
use Rattle.std.proofs.Common.{option_map, map, length, set, refl, sym, ap, ◌∙◌, arith, position, length-append}
use Rattle.std.specs.Prelude.{find}
use Rattle.std.specs.List.{position_or_len, slice_get}
use Rattle.std.specs.Str.{bytes_eq}
use Rattle.std.proofs.lemmas.Slice.Eq.{bytes_eq-Decides}
use Rattle.std.proofs.lemmas.Grind.{common_steps}
use Rattle.std.proofs.lemmas.List.{length-set}
use Rattle.std.proofs.lemmas.List.Folds.{find_at}
use Rattle.std.proofs.lemmas.Option.{slice_get_past}
use Rattle.sieve_library.specs.Libraries.{NamedScript, is_named, script_under, with_entry, EachOnce, IsLocation, most_scripts}

-- PLACES

pub position_or_len-map : {X Y : Type 0} (f : X → Y) (p : Y → Bool) (xs : List X) → position_or_len p (map f xs) ≡ position_or_len (λ x. p (f x)) xs
position_or_len-map f p [] = refl
position_or_len-map f p (x ∷ xs) = ap (λ n. cond (not (p (f x))) (1 + n) 0) (position_or_len-map f p xs)

pub placed : {X : Type 0} (p : X → Bool) (xs : List X) (i : ℕ) → position p xs ≡ Some i → (position_or_len p xs ≡ i) × (i < length xs)
placed p xs i e = (grind (arith, common_steps), grind (arith, common_steps))

pub not_placed : {X : Type 0} (p : X → Bool) (xs : List X) → position p xs ≡ None → length xs ≤ position_or_len p xs
not_placed p xs e = grind (arith, common_steps)

-- NAMES

pub same_name : (a b : List ℕ) → bytes_eq a b ≡ true → a ≡ b
same_name a b h = (bytes_eq-Decides a b).0 h

pub other_name : (a b : List ℕ) → (a ≡ b → ⊥) → bytes_eq a b ≡ false
other_name a b h = by (bytes_eq a b) refl
  where
    by : (r : Bool) → bytes_eq a b ≡ r → r ≡ false
    by true e = absurd (h (same_name a b e))
    by false e = refl

differ : (a b : List ℕ) → bytes_eq a b ≡ false → a ≡ b → ⊥
differ a b h e = cc (h, (bytes_eq-Decides a b).1 e)

-- LOOKING UP

pub missing : (name : List ℕ) (es : List NamedScript) → position (is_named name) es ≡ None → script_under name es ≡ None
missing name es e = ap (option_map (λ (x : NamedScript). x.script)) (find_at (is_named name) es
    ∙ slice_get_past es (position_or_len (is_named name) es) (not_placed (is_named name) es e))

pub found_passes : (name : List ℕ) (es : List NamedScript) (x : NamedScript) → find (is_named name) es ≡ Some x → is_named name x ≡ true
found_passes name [] x k = absurd (cc k)
found_passes name (y ∷ ys) x k = by (is_named name y) refl k (found_passes name ys x)
  where
    by : (b : Bool) → is_named name y ≡ b → cond b (Some y) (find (is_named name) ys) ≡ Some x
        → (find (is_named name) ys ≡ Some x → is_named name x ≡ true) → is_named name x ≡ true
    by true t e rest = let same : y ≡ x = cc e in ap (is_named name) (sym same) ∙ t
    by false t e rest = rest e

pub there : (name : List ℕ) (es : List NamedScript) (i : ℕ) (x : NamedScript) → position (is_named name) es ≡ Some i
    → slice_get es i ≡ Some x → find (is_named name) es ≡ Some x
there name es i x e h = find_at (is_named name) es ∙ ap (slice_get es) (placed (is_named name) es i e).0 ∙ h

-- PUTTING

pub put_there : (x : NamedScript) (es : List NamedScript) → position_or_len (is_named x.name) es < length es
    → with_entry x es ≡ set es (position_or_len (is_named x.name) es) x
put_there x [] h = absurd (omega arith)
put_there x (e ∷ es) h = by (is_named x.name e) h (put_there x es)
  where
    by : (b : Bool) → cond (not b) (1 + position_or_len (is_named x.name) es) 0 < length (e ∷ es)
        → (position_or_len (is_named x.name) es < length es
        → with_entry x es ≡ set es (position_or_len (is_named x.name) es) x)
        → cond b (x ∷ es) (e ∷ with_entry x es) ≡ set (e ∷ es) (cond (not b) (1 + position_or_len (is_named x.name) es) 0) x
    by true k rest = refl
    by false k rest =
        let next : 1 + position_or_len (is_named x.name) es ≡ suc (position_or_len (is_named x.name) es) = omega arith in
        ap (λ t. e ∷ t) (rest (omega arith)) ∙ sym (ap (λ n. set (e ∷ es) n x) next)

pub put_last : (x : NamedScript) (es : List NamedScript) → script_under x.name es ≡ None → with_entry x es ≡ es ++ x ∷ []
put_last x [] h = refl
put_last x (e ∷ es) h = by (is_named x.name e) h (put_last x es)
  where
    by : (b : Bool) → option_map (λ (y : NamedScript). y.script) (cond b (Some e) (find (is_named x.name) es)) ≡ None
        → (script_under x.name es ≡ None → with_entry x es ≡ es ++ x ∷ [])
        → cond b (x ∷ es) (e ∷ with_entry x es) ≡ e ∷ (es ++ x ∷ [])
    by true k rest = absurd (cc k)
    by false k rest = ap (λ t. e ∷ t) (rest k)

-- what is found after a script was put at its name
module _ (x : NamedScript) (n : List ℕ) where
  only : (b : Bool) → option_map (λ (y : NamedScript). y.script) (cond b (Some x) None) ≡ cond b (Some x.script) None
  only true = refl
  only false = refl

  -- in the place of e
  over : (e : NamedScript) (es : List NamedScript) (b : Bool)
      → option_map (λ (y : NamedScript). y.script) (cond b (Some x) (find (is_named n) es))
      ≡ cond b (Some x.script) (option_map (λ (y : NamedScript). y.script) (cond b (Some e) (find (is_named n) es)))
  over e es true = refl
  over e es false = refl

  -- after e, which has another name
  past : (e : NamedScript) (es : List NamedScript) (b : Bool) → bytes_eq e.name n ≡ b → bytes_eq e.name x.name ≡ false
      → script_under n (with_entry x es) ≡ cond (bytes_eq x.name n) (Some x.script) (script_under n es)
      → option_map (λ (y : NamedScript). y.script) (cond b (Some e) (find (is_named n) (with_entry x es)))
      ≡ cond (bytes_eq x.name n) (Some x.script) (option_map (λ (y : NamedScript).
      y.script) (cond b (Some e) (find (is_named n) es)))
  past e es true k d rest =
      let other : bytes_eq x.name n ≡ false = other_name x.name n (λ h. differ e.name x.name d (same_name e.name n k ∙ sym h)) in
      ap (λ b. cond b (Some x.script) (Some e.script)) (sym other)
  past e es false k d rest = rest

  put_before : (e : NamedScript) (es : List NamedScript) (b : Bool) → bytes_eq e.name x.name ≡ b
      → script_under n (with_entry x es) ≡ cond (bytes_eq x.name n) (Some x.script) (script_under n es)
      → script_under n (cond b (x ∷ es) (e ∷ with_entry x es)) ≡ cond (bytes_eq x.name n) (Some x.script) (script_under n (e ∷ es))
  put_before e es true k rest =
      let same : bytes_eq x.name n ≡ bytes_eq e.name n = ap (λ a. bytes_eq a n) (sym (same_name e.name x.name k)) in
      ap (λ b. option_map (λ (y : NamedScript). y.script) (cond b (Some x) (find (is_named n) es))) same
      ∙ over e es (bytes_eq e.name n) ∙ ap (λ b. cond b (Some x.script) (script_under n (e ∷ es))) (sym same)
  put_before e es false k rest = past e es (bytes_eq e.name n) refl k rest

  pub named_put : (es : List NamedScript) → script_under n (with_entry x es) ≡ cond (bytes_eq x.name n) (Some x.script) (script_under n es)
  named_put [] = only (bytes_eq x.name n)
  named_put (e ∷ es) = put_before e es (bytes_eq e.name x.name) refl (named_put es)

-- THE LOCATION

once_put : (x : NamedScript) (es : List NamedScript) → EachOnce es → EachOnce (with_entry x es)
once_put x [] h = (refl, tt)
once_put x (e ∷ es) h = by (bytes_eq e.name x.name) refl (once_put x es h.1)
  where
    by : (b : Bool) → bytes_eq e.name x.name ≡ b → EachOnce (with_entry x es) → EachOnce (cond b (x ∷ es) (e ∷ with_entry x es))
    by true k rest = (ap (λ a. script_under a es) (sym (same_name e.name x.name k)) ∙ h.0, h.1)
    by false k rest =
        let other : bytes_eq x.name e.name ≡ false = other_name x.name e.name (λ s. differ e.name x.name k (sym s)) in
        (named_put x e.name es ∙ ap (λ b. cond b (Some x.script) (script_under e.name es)) other ∙ h.0, rest)

pub location_there : (x : NamedScript) (es : List NamedScript) → position_or_len (is_named x.name) es < length es
    → IsLocation es → IsLocation (with_entry x es)
location_there x es h l = record {
  once = once_put x es l.once;
  few = let long : length (with_entry x es) ≡ length es =
      ap length (put_there x es h) ∙ length-set es (position_or_len (is_named x.name) es) x in
      omega (arith, long, l.few);
}

pub location_last : (x : NamedScript) (es : List NamedScript) → script_under x.name es ≡ None → length es < most_scripts
    → IsLocation es → IsLocation (with_entry x es)
location_last x es h n l =
    record {
      once = once_put x es l.once;
      few = let long : length (with_entry x es) ≡ length es + 1 =
          ap length (put_last x es h) ∙ length-append es (x ∷ []) in omega (arith, long, n);
    }
