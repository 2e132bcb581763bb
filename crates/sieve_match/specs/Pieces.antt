-- The pieces of a pattern (RFC 5228, section 2.7.1), which stand between one `*` and the next, and where they fit.
use Rattle.std.specs.Prelude.{◌≡◌, ℕ, ◌+◌, ◌≤◌, ◌||◌, ◌==◌, List, [], ◌∷◌, length, map, take, drop, Option, MatchOption}
use Rattle.memchr.specs.Find.{IsFirst}
use Rattle.sieve_meaning.specs.declared.matching.Comparator.{Comparator}
use Rattle.sieve_meaning.specs.declared.matching.Item.{Item}
use Rattle.sieve_meaning.specs.declared.matching.Item.TheVariants.{Octet, One, Any}
use Rattle.sieve_meaning.specs.Matching.{fold_octet, items_of}
use Rattle.sieve_match.specs.declared.pieces.Piece.{Piece}
use Rattle.sieve_match.specs.declared.pieces.Shape.TheVariants.{Plain}

-- no item is `*`
abbrev pub IsStarless : List Item → Type 0
IsStarless [] = Unit {0}
IsStarless (Octet o ∷ is) = IsStarless is
IsStarless (One ∷ is) = IsStarless is
IsStarless (Any ∷ is) = ⊥

-- an item fits an octet; a `*` fits none
abbrev pub FitsItem : Comparator → Item → ℕ → Type 0
FitsItem c (Octet o) b = fold_octet c o ≡ fold_octet c b
FitsItem c One b = Unit {0}
FitsItem c Any b = ⊥

-- each item fits an octet, one after another from the front of a text on
abbrev pub FitsFront : Comparator → List Item → List ℕ → Type 0
FitsFront c [] text = Unit {0}
FitsFront c (i ∷ is) [] = ⊥
FitsFront c (i ∷ is) (b ∷ bs) = FitsItem c i b × FitsFront c is bs

-- the same from a place of the text on
abbrev pub FitsAt : Comparator → List Item → List ℕ → ℕ → Type 0
FitsAt c items text k = FitsFront c items (drop k text)

-- the first place of a text that the first items of a pattern fit
abbrev pub FindsPiece : Comparator → (pattern : List ℕ) → (count : ℕ) → (text : List ℕ) → Option ℕ → Type 0
FindsPiece c pattern count text r = IsFirst (FitsAt c (take count (items_of pattern)) text) 0 (length text + 1) r

-- a piece: the items of a pattern before its first `*`
pub record IsPiece (pattern : List ℕ) (p : Piece) : Type 0 where
  pub within : p.count ≤ length (items_of pattern)
  pub starless : IsStarless (take p.count (items_of pattern))
  pub ends : MatchOption p.after (drop p.count (items_of pattern) ≡ [])
      (λ after. drop p.count (items_of pattern) ≡ Any ∷ items_of after.now)
  -- in a plain piece each octet of the pattern is an item
  pub plain : p.shape ≡ Plain →
      (p.count ≤ length pattern) × (take p.count (items_of pattern) ≡ map Octet (take p.count pattern))

-- the two octets that an octet is equal to, as they are compared: one of them, or both cases of a letter
abbrev pub AreCases : Comparator → ℕ → (first second : ℕ) → Type 0
AreCases c o first second = (b : ℕ) → (b == first || b == second) ≡ (fold_octet c o == fold_octet c b)
