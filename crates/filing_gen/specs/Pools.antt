-- What operations name: each thing once, with its place in a list.
use Rattle.std.specs.Prelude.{◌≡◌, ◌⊎◌, ℕ, ◌+◌, ◌<◌, ◌≤◌, ◌^◌, List, [], ◌∷◌, length, map, Some, slice_get, Vec}
use Rattle.std.specs.declared.alloc.Global.{Global}

abbrev pub IsAmong : {A : Type 0} → A → List A → Type 0
IsAmong x [] = ⊥
IsAmong x (y ∷ ys) = (y ≡ x) ⊎ IsAmong x ys

-- The places are those of a list in which nothing stands twice: each is below the length, and has one thing.
pub record IsNumbered {A : Type 0} (es : List (A × ℕ)) : Type 0 where
  pub inside : (x : A) (b : ℕ) → IsAmong (x, b) es → b < length es
  pub each : (b : ℕ) → b < length es → (x : A) × IsAmong (x, b) es
  pub one_thing : (x y : A) (b : ℕ) → IsAmong (x, b) es → IsAmong (y, b) es → x ≡ y
  pub one_place : (x : A) (b c : ℕ) → IsAmong (x, b) es → IsAmong (x, c) es → b ≡ c

-- Texts with their places: a text of an image has room for each.
pub record AreTexts (es : List (List ℕ × ℕ)) : Type 0 where
  pub numbered : IsNumbered es
  pub short : (t : List ℕ) (b : ℕ) → IsAmong (t, b) es → length t < 2 ^ 16

-- Each thing keeps its place, and at most one was added.
pub record Admits {A : Type 0} (old new : List (A × ℕ)) : Type 0 where
  pub kept : (x : A) (b : ℕ) → IsAmong (x, b) old → IsAmong (x, b) new
  pub few : length new ≤ length old + 1

-- nothing stands in the list twice
abbrev pub IsOnce : {A : Type 0} → List A → Type 0
IsOnce {A} xs = (i j : ℕ) (x : A) → slice_get xs i ≡ Some x → slice_get xs j ≡ Some x → i ≡ j

-- the octets of texts that are in vectors
abbrev pub octets_of : List (Vec ℕ Global) → List (List ℕ)
octets_of texts = map (λ t. t.items) texts

abbrev pub texts_in : List (Vec ℕ Global × ℕ) → List (List ℕ × ℕ)
texts_in es = map (λ e. (e.0.items, e.1)) es
