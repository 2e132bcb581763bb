-- The index of the holds, by name and record.
use Rattle.std.specs.Prelude.{◌≡◌, ◌+◌, ◌==◌, ◌&&◌, if◌then◌else◌, ℕ, Bool, List, Vec, unwrap_or}
use Rattle.std.specs.declared.cmp.Ordering.{Ordering}
use Rattle.std.specs.Ordering.{nat_cmp, ordering_then}
use Rattle.std.specs.Cmp.Lexicographic.{slice_cmp}
use Rattle.std.specs.BTreeMap.{get}
use Rattle.std.specs.Str.{bytes_eq}
use Rattle.std.specs.declared.alloc.Global.{Global}
use Rattle.record_judge.specs.Counts.{count_at, only_at, tally}
use Rattle.record_judge.specs.declared.hold_counts.HoldCounts.{HoldCounts}
use Rattle.record_judge.specs.declared.hold_index.HoldIndex.{HoldIndex}
use Rattle.record_judge.specs.declared.sealed.NamedHold.{NamedHold}

-- the name of a hold, and the number of its record
abbrev pub Key : Type 0
Key = Vec ℕ Global × ℕ

abbrev pub key_cmp : Key → Key → Ordering
key_cmp k q = ordering_then (slice_cmp nat_cmp k.0.items q.0.items) (nat_cmp k.1 q.1)

-- the same name and number
abbrev pub is_key : Key → Key → Bool
is_key k q = bytes_eq k.0.items q.0.items && (k.1 == q.1)

-- how often it was counted
abbrev pub named_at : HoldCounts → Key → ℕ
named_at c k = unwrap_or (get key_cmp c.counts k) 0

-- the hold has this name, on this record
abbrev pub is_hold_of : List ℕ → ℕ → NamedHold → Bool
is_hold_of name n h = bytes_eq h.name.items name && (h.number == n)

-- the hold is on this record
abbrev pub is_hold_on : ℕ → NamedHold → Bool
is_hold_on q h = h.number == q

-- THE INDEX OF THE HOLDS: how many each record has, and how many of each name
pub record IsHoldIndex (index : HoldIndex) (rows : List NamedHold) : Type 0 where
  pub records : (q : ℕ) → count_at index.records q ≡ tally (is_hold_on q) rows
  pub names : (k : Key) → named_at index.names k ≡ tally (is_hold_of k.0.items k.1) rows

-- a hold is noted in the index
pub record IsHoldNoted (key : Key) (old new : HoldIndex) : Type 0 where
  pub records : (q : ℕ) → count_at new.records q ≡ count_at old.records q + only_at key.1 1 q
  pub names : (k : Key) → named_at new.names k ≡ named_at old.names k + (if is_key key k then 1 else 0)
