-- Paths of classes: 1 to 8 segments of 1 to 40 octets of a-z, 0-9 and "-", joined by "/".
use Rattle.std.specs.Prelude.{ℕ, zero, suc, ◌==◌, nat_le, Bool, true, ◌&&◌, ◌||◌, if◌then◌else◌, List, [], ◌∷◌, ◌++◌, take, length, slice_index, codes}
use Rattle.std.specs.List.{list_all}

-- a-z, 0-9 and "-"
abbrev pub is_mark : ℕ → Bool
is_mark c = (nat_le 97 c && nat_le c 122) || (nat_le 48 c && nat_le c 57) || (c == 45)

-- the pieces between the octets "/", where the first piece begins with the octets read so far
abbrev pub segments_from : List ℕ → List ℕ → List (List ℕ)
segments_from now [] = now ∷ []
segments_from now (c ∷ cs) = if c == 47 then now ∷ segments_from [] cs else segments_from (now ++ c ∷ []) cs

abbrev pub is_segment : List ℕ → Bool
is_segment s = nat_le 1 (length s) && nat_le (length s) 40 && list_all is_mark s

unfoldable pub is_path : List ℕ → Bool
is_path p = nat_le (length (segments_from [] p)) 8 && list_all is_segment (segments_from [] p)

-- the prefixes of p that have fewer than n octets and that a "/" follows in p, the longest first
abbrev pub ancestors_below : List ℕ → ℕ → List (List ℕ)
ancestors_below p zero = []
ancestors_below p (suc k) = if slice_index p k == 47 then take k p ∷ ancestors_below p k else ancestors_below p k

-- the ancestors of a path, the parent first: its proper prefixes that a "/" follows in it
abbrev pub ancestors : List ℕ → List (List ℕ)
ancestors p = ancestors_below p (length p)

-- the first path passes, or there is no path
abbrev pub first_passes : (List ℕ → Bool) → List (List ℕ) → Bool
first_passes known [] = true
first_passes known (q ∷ qs) = known q

-- a path has one segment, or its parent passes
abbrev pub has_parent_in : (List ℕ → Bool) → List ℕ → Bool
has_parent_in known p = first_passes known (ancestors p)

-- the class that is always there
abbrev pub unfiled : List ℕ
unfiled = codes "unfiled"
