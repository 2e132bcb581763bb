-- Numbers that are typed, and of which no event tells.
use Rattle.std.specs.Prelude.{ℕ, Bool, false, not, List, [], ◌∷◌, filter, Option, Some, None}
use Rattle.std.specs.List.{list_all, list_any}
use Rattle.choice_words.specs.declared.numbers.TypedNumbers.{TypedNumbers}
use Rattle.record_history.specs.Events.{Deed}
use Rattle.cli_history.specs.Chosen.{meets, subjects}

-- numbers that are typed together have one of those from a first to a last, if there are such
abbrev pub has_one : Option (ℕ × ℕ) → TypedNumbers → Bool
has_one None words = false
has_one (Some s) words = meets s.0 s.1 words

-- a deed is about a record of numbers that are typed together
abbrev pub is_of : TypedNumbers → Deed → Bool
is_of words deed = has_one (subjects deed) words

-- the numbers that are left behind one more deed, in their order
abbrev pub unmet_after : List TypedNumbers → Deed → List TypedNumbers
unmet_after typed deed = filter (λ words. not (is_of words deed)) typed

-- THE NUMBERS OF WHICH NONE OF THESE DEEDS TELLS
abbrev pub unmet : List TypedNumbers → List Deed → List TypedNumbers
unmet typed [] = typed
unmet typed (d ∷ ds) = unmet (unmet_after typed d) ds

-- EACH IS MET: of all numbers that are typed together one of these deeds is about one
abbrev pub are_met : List TypedNumbers → List Deed → Bool
are_met typed deeds = list_all (λ words. list_any (is_of words) deeds) typed
