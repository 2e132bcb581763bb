-- Fields with their values, by their places, and as `FieldValues` stores them.
use Rattle.std.specs.Prelude.{ℕ, zero, suc, Bool, List, [], ◌∷◌, slice_index_or, slice_range, nat_le, ◌==◌, ◌&&◌}
use Rattle.sieve_meaning.specs.Case.{Field, Facts}
use Rattle.mail_case.specs.declared.fields.FieldEnds.{FieldEnds}

-- the field at a place of a list, counted from 0
abbrev pub nth_field : List Field → ℕ → Field
nth_field fields place = slice_index_or fields place (record { name = []; value = [] })

-- the field at a place of a case
abbrev pub field_at : Facts → ℕ → Field
field_at facts place = nth_field facts.fields place

-- the fields whose names and values are in the octets, from a start on: a name, its value, the next name, and so on
abbrev pub fields_from : List ℕ → ℕ → List FieldEnds → List Field
fields_from octets start [] = []
fields_from octets start (e ∷ es) = record { name = slice_range octets start e.name; value = slice_range octets e.name e.value } ∷ fields_from octets e.value es

-- the ends ascend from a start to the last of the octets
abbrev pub ascend : ℕ → List FieldEnds → ℕ → Bool
ascend start [] last = start == last
ascend start (e ∷ es) last = nat_le start e.name && (nat_le e.name e.value && ascend e.value es last)

-- where the field at a place begins
abbrev pub start_from : ℕ → List FieldEnds → ℕ → ℕ
start_from start [] place = start
start_from start (e ∷ es) zero = start
start_from start (e ∷ es) (suc place) = start_from e.value es place
