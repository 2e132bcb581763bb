-- Comparators and match types (RFC 5228, sections 2.7.1 and 2.7.3; RFC 4790, sections 9.2 and 9.3).
use Rattle.std.specs.Prelude.{◌≡◌, ℕ, ◌-◌, Bool, true, false, List, [], ◌∷◌, ◌++◌, drop, map, nat_le, nat_eq, ◌==◌, ◌&&◌, if◌then◌else◌}
use Rattle.std.specs.List.{list_any, starts_with}
use Rattle.std.specs.Str.{bytes_eq}
use Rattle.sieve_meaning.specs.declared.matching.Comparator.{Comparator}
use Rattle.sieve_meaning.specs.declared.matching.Comparator.TheVariants as comparators
use Rattle.sieve_meaning.specs.declared.matching.MatchType.{MatchType}
use Rattle.sieve_meaning.specs.declared.matching.MatchType.TheVariants as match_types
use Rattle.sieve_meaning.specs.declared.matching.Item.{Item}
use Rattle.sieve_meaning.specs.declared.matching.Item.TheVariants.{Octet, One, Any}

-- an octet as it is compared: `i;ascii-casemap` maps a to z to A to Z
abbrev pub fold_octet : Comparator → ℕ → ℕ
fold_octet comparators.Octet b = b
fold_octet comparators.Casemap b = if nat_le 97 b && nat_le b 122 then b - 32 else b

-- a text as it is compared
abbrev pub fold : Comparator → List ℕ → List ℕ
fold c text = map (fold_octet c) text

-- `:is`: the texts compare as equal
abbrev pub IsEqualUnder : Comparator → (key value : List ℕ) → Type 0
IsEqualUnder c key value = fold c key ≡ fold c value

-- `:contains`: the value is any text, the key, and any text
abbrev pub Contains : Comparator → (key value : List ℕ) → Type 0
Contains c key value = (before : List ℕ) × (after : List ℕ) × (fold c value ≡ before ++ (fold c key ++ after))

abbrev pub item_of : ℕ → Item
item_of b = if b == 42 then Any else if b == 63 then One else Octet b

-- the items of a pattern; the flag says whether a backslash came. A backslash makes the next octet match itself,
-- and a last lone backslash matches a backslash
unfoldable pub items_from : Bool → List ℕ → List Item
items_from false [] = []
items_from true [] = Octet 92 ∷ []
items_from true (b ∷ bs) = Octet b ∷ items_from false bs
items_from false (b ∷ bs) = if b == 92 then items_from true bs else item_of b ∷ items_from false bs

abbrev pub items_of : List ℕ → List Item
items_of pattern = items_from false pattern

-- `:matches`: the items cover the whole text
abbrev pub Matches : Comparator → List Item → List ℕ → Type 0
Matches c [] [] = Unit {0}
Matches c [] (b ∷ bs) = ⊥
Matches c (Octet o ∷ is) [] = ⊥
Matches c (Octet o ∷ is) (b ∷ bs) = (fold_octet c o ≡ fold_octet c b) × Matches c is bs
Matches c (One ∷ is) [] = ⊥
Matches c (One ∷ is) (b ∷ bs) = Matches c is bs
Matches c (Any ∷ is) text = (n : ℕ) × Matches c is (drop n text)

-- the rest of a text from each of its places, the end included
unfoldable pub suffixes : List ℕ → List (List ℕ)
suffixes [] = [] ∷ []
suffixes (b ∷ bs) = (b ∷ bs) ∷ suffixes bs

-- the same relations as functions that compute

unfoldable pub equals : Comparator → (key value : List ℕ) → Bool
equals c key value = bytes_eq (fold c key) (fold c value)

unfoldable pub contains : Comparator → (key value : List ℕ) → Bool
contains c key value = list_any (λ rest. starts_with nat_eq rest (fold c key)) (suffixes (fold c value))

unfoldable pub covers : Comparator → List Item → List ℕ → Bool
covers c [] [] = true
covers c [] (b ∷ bs) = false
covers c (Octet o ∷ is) [] = false
covers c (Octet o ∷ is) (b ∷ bs) = (fold_octet c o == fold_octet c b) && covers c is bs
covers c (One ∷ is) [] = false
covers c (One ∷ is) (b ∷ bs) = covers c is bs
covers c (Any ∷ is) text = list_any (covers c is) (suffixes text)

-- whether a key matches a value
abbrev pub key_matches : MatchType → Comparator → (key value : List ℕ) → Bool
key_matches match_types.Is c key value = equals c key value
key_matches match_types.Contains c key value = contains c key value
key_matches match_types.Matches c key value = covers c (items_of key) value
