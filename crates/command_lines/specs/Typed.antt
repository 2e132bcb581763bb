-- The words of a command line as they are typed.
use Rattle.std.specs.Prelude.{ℕ, ◌&&◌, ◌||◌, ◌==◌, nat_le, nat_lt, Bool, false, List, [], ◌∷◌, length, map, slice_index, String, string_bytes}
use Rattle.std.specs.declared.alloc.Global.{Global}
use Rattle.std.specs.List.{list_any}
use Rattle.std.specs.Str.{bytes_eq}

-- the words that are typed, the program's name first
abbrev pub typed : List (String Global) → List (List ℕ)
typed words = map string_bytes words

abbrev pub is_hyphened : List ℕ → Bool
is_hyphened word = nat_lt 0 (length word) && (slice_index word 0 == 45)

-- a word begins as a number with a sign does: with a hyphen and a digit
abbrev pub is_signed : List ℕ → Bool
is_signed word =
    nat_lt 1 (length word) && ((slice_index word 0 == 45) && (nat_le 48 (slice_index word 1) && nat_le (slice_index word 1) 57))

-- A NUMBER WITH A SIGN IS TYPED
abbrev pub has_signed : List (List ℕ) → Bool
has_signed words = list_any is_signed words

abbrev pub begin_hyphened : List (List ℕ) → Bool
begin_hyphened [] = false
begin_hyphened (word ∷ rest) = is_hyphened word

-- A WORD WITH A HYPHEN AT ITS BEGINNING STANDS RIGHT AFTER THIS ONE
abbrev pub has_hyphened_after : (before : List ℕ) → List (List ℕ) → Bool
has_hyphened_after before [] = false
has_hyphened_after before (word ∷ rest) = (bytes_eq word before && begin_hyphened rest) || has_hyphened_after before rest
