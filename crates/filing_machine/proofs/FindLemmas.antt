-- The first element of a list that passes a test.
use Rattle.std.proofs.Common.{◌≡◌, ◌<◌, ◌+◌, ◌∷◌, [], ℕ, List, Bool, true, false, cond, Some, None, is_some, IfSome, ◌||◌, map, take, drop, length}
use Rattle.std.proofs.Common.{get_or, refl, ap, sym, ◌∙◌, take-append-drop}
use Rattle.std.specs.List.{find, list_any}
use Rattle.std.specs.Option.{option_or}
use Rattle.std.proofs.lemmas.List.{take_more}
use Rattle.std.proofs.lemmas.List.Folds.{find-append}

module _ {X : Type 0} (p : X → Bool) where
  pub is_some_find : (xs : List X) → is_some (find p xs) ≡ list_any p xs
  is_some_find [] = refl
  is_some_find (x ∷ xs) = by (p x) (is_some_find xs)
    where
      by : (b : Bool) → is_some (find p xs) ≡ list_any p xs → is_some (cond b (Some x) (find p xs)) ≡ (b || list_any p xs)
      by true rest = refl
      by false rest = rest

  pub found_passes : (xs : List X) → IfSome (find p xs) (λ x. p x ≡ true)
  found_passes [] = tt
  found_passes (x ∷ xs) = by (p x) refl (found_passes xs)
    where
      by : (b : Bool) → p x ≡ b → IfSome (find p xs) (λ y. p y ≡ true) → IfSome (cond b (Some x) (find p xs)) (λ y. p y ≡ true)
      by true e rest = e
      by false e rest = rest

  -- none of the first ones passes, and the next one neither
  pub find_none_more : (xs : List X) (k : ℕ) (d : X) → k < length xs → find p (take k xs) ≡ None
      → p (get_or xs k d) ≡ false → find p (take (k + 1) xs) ≡ None
  find_none_more xs k d lt none e =
      ap (find p) (take_more xs k d lt) ∙ find-append p (take k xs) _
      ∙ ap (λ o. option_or o (find p (get_or xs k d ∷ []))) none ∙ ap (λ b. cond b (Some (get_or xs k d)) None) e

  -- none of the first ones passes, and the next one does
  pub find_here : (xs : List X) (k : ℕ) (d : X) → k < length xs → find p (take k xs) ≡ None → p (get_or xs k d) ≡ true
      → find p xs ≡ Some (get_or xs k d)
  find_here xs k d lt none e =
      let up_to : find p (take (k + 1) xs) ≡ Some (get_or xs k d) =
      ap (find p) (take_more xs k d lt) ∙ find-append p (take k xs) _
      ∙ ap (λ o. option_or o (find p (get_or xs k d ∷ []))) none ∙ ap (λ b. cond b (Some (get_or xs k d)) None) e in
      ap (find p) (sym (take-append-drop (k + 1) xs)) ∙ find-append p (take (k + 1) xs) (drop (k + 1) xs)
      ∙ ap (λ o. option_or o (find p (drop (k + 1) xs))) up_to

pub any_of_map : {X Y : Type 0} (p : Y → Bool) (f : X → Y) (xs : List X) → list_any p (map f xs) ≡ list_any (λ x. p (f x)) xs
any_of_map p f [] = refl
any_of_map p f (x ∷ xs) = ap (λ b. p (f x) || b) (any_of_map p f xs)
