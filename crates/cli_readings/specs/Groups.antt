-- Which messages were captured twice.
use Rattle.std.specs.Prelude.{◌≡◌, ℕ, ◌==◌, ◌&&◌, Bool, true, false, not, List, [], ◌∷◌, Option, Some, None, Vec, if◌then◌else◌}
use Rattle.std.specs.BTreeMap.{BTreeMap, get}
use Rattle.std.specs.Cmp.Lexicographic.{slice_cmp}
use Rattle.std.specs.List.{All, Contains, IsDistinct, filter, list_any}
use Rattle.std.specs.List.Sorted.{IsSortedByKey}
use Rattle.std.specs.Map.{keys_of}
use Rattle.std.specs.Ordering.{nat_cmp, ordering_then}
use Rattle.std.specs.Str.{bytes_eq}
use Rattle.std.specs.declared.alloc.Global.{Global}
use Rattle.std.specs.declared.cmp.Ordering.{Ordering}
use Rattle.cli_readings.specs.declared.groups.Sealed.{Sealed}
use Rattle.cli_readings.specs.declared.groups.Group.{Group}
use Rattle.cli_readings.specs.declared.groups.Groups.{Groups}

-- the records of a group, in the order in which they were added
abbrev pub records_of : Group → List Sealed
records_of g = g.first ∷ g.others.items

-- two records have one message: that of the same number, in the same volume
abbrev pub has_one_message : Sealed → Sealed → Bool
has_one_message r s = (s.message == r.message) && (s.volume == r.volume)

-- THE MESSAGE WAS CAPTURED TWICE that all of these records have by its octets: by its number and volume, not all have the same one
abbrev pub is_twice : List Sealed → Bool
is_twice [] = false
is_twice (r ∷ rs) = list_any (λ (s : Sealed). not (has_one_message r s)) rs

-- the order of records: by volume, and in one volume by number
abbrev pub place_order : Sealed → Sealed → Ordering
place_order r s = ordering_then (nat_cmp r.volume s.volume) (nat_cmp r.number s.number)

-- ---- seals

-- what stands for a message: how many octets it has, and their SHA-256 in digits
abbrev pub Key : Type 0
Key = ℕ × List ℕ

-- a record that is added, behind what stands for its message
abbrev pub Added : Type 0
Added = Key × Sealed

-- two messages have the same seal
abbrev pub is_same : Key → Key → Bool
is_same one other = (one.0 == other.0) && bytes_eq one.1 other.1

-- THE RECORDS WITH A SEAL, among those that were added, in the same order
abbrev pub with_key : Key → List Added → List Sealed
with_key key [] = []
with_key key (e ∷ es) = if is_same e.0 key then e.1 ∷ with_key key es else with_key key es

-- ---- groups

-- a seal, and a group, as they are kept
abbrev pub OwnKey : Type 0
OwnKey = ℕ × Vec ℕ Global

abbrev pub key_of : OwnKey → Key
key_of own = (own.0, own.1.items)

abbrev pub KeyedGroup : Type 0
KeyedGroup = OwnKey × Group

-- the order of seals
abbrev pub order_of : OwnKey → OwnKey → Ordering
order_of x y = ordering_then (nat_cmp x.0 y.0) (slice_cmp nat_cmp x.1.items y.1.items)

-- the records of a group that may be there
abbrev pub records_in : Option Group → List Sealed
records_in None = []
records_in (Some g) = records_of g

-- THE GROUPS OF THE RECORDS THAT WERE ADDED: under each seal stand the records that have it
pub record AreUnder (groups : BTreeMap OwnKey Group) (added : List Added) : Type 0 where
  pub records : (own : OwnKey) → records_in (get order_of groups own) ≡ with_key (key_of own) added
  pub seals : All (λ e. (own : OwnKey) × (key_of own ≡ e.0)) added

abbrev pub AreGroupsOf : Groups → List Added → Type 0
AreGroupsOf g added = AreUnder g.groups added

-- ---- what was captured twice

-- a group has all records of its seal
abbrev pub IsWhole : List Added → KeyedGroup → Type 0
IsWhole added g = records_of g.1 ≡ with_key (key_of g.0) added

-- the message of a group was captured twice
abbrev pub was_twice : KeyedGroup → Bool
was_twice g = is_twice (records_of g.1)

-- a seal stands before one of the groups
abbrev pub IsListed : List KeyedGroup → Key → Type 0
IsListed groups key = (g : KeyedGroup) × Contains groups g × (key_of g.0 ≡ key)

-- THE GROUPS OF THE MESSAGES THAT WERE CAPTURED TWICE, of the records that were added: of each such message the group of all its
-- records, once, in the order of their first records, and no other group
pub record AreTwice (added : List Added) (groups : List KeyedGroup) : Type 0 where
  pub whole : All (IsWhole added) groups
  pub twice : All (λ g. was_twice g ≡ true) groups
  pub each : All (λ e. is_twice (with_key e.0 added) ≡ true → IsListed groups e.0) added
  pub once : IsDistinct (λ (x y : OwnKey). is_same (key_of x) (key_of y)) (keys_of groups)
  pub ordered : IsSortedByKey (λ (g : KeyedGroup). g.1.first) place_order groups

-- groups in the order of their seals, of which those were captured twice
abbrev pub twice_in : BTreeMap OwnKey Group → List KeyedGroup
twice_in groups = filter was_twice groups.entries
