-- Which records, messages and holds are those of an archive with a plan.
use Rattle.std.specs.Prelude.{◌≡◌, ◌≤◌, ℕ, ◌==◌, Bool, true, not, ◌&&◌, List, map, All}
use Rattle.std.specs.List.{list_any}
use Rattle.std.specs.List.Sorted.{IsStrictlySortedBy}
use Rattle.std.specs.Ordering.{nat_cmp, ordering_then}
use Rattle.std.specs.declared.cmp.Ordering.{Ordering}
use Rattle.std.specs.Cmp.Lexicographic.{slice_cmp}
use Rattle.class_plan.specs.Plans.{Listing, has}
use Rattle.record_archive.specs.Archive.{Record}
use Rattle.record_tables.specs.Reads.{HoldEntry}

-- a live record has this number
abbrev pub is_of_live : (Record → ℕ) → List Record → ℕ → Bool
is_of_live f rs n = list_any (λ (r : Record). not r.destroyed && (f r == n)) rs

-- a live record names the message
abbrev pub is_named : List Record → ℕ → Bool
is_named = is_of_live (λ (r : Record). r.message)

-- there is a live record with the number
abbrev pub is_live : List Record → ℕ → Bool
is_live = is_of_live (λ (r : Record). r.number)

-- a number is among some
abbrev pub is_one_of : List ℕ → ℕ → Bool
is_one_of ns n = list_any (λ k. k == n) ns

-- by record, then by name
abbrev pub hold_cmp : HoldEntry → HoldEntry → Ordering
hold_cmp x y = ordering_then (nat_cmp x.number y.number) (slice_cmp nat_cmp x.name y.name)

-- what holds of a record: its numbers, the day of its capture, of 1970 to 2199, and its class
pub record IsSound (p : Listing) (r : Record) : Type 0 where
  pub number : 1 ≤ r.number
  pub message : (1 ≤ r.message) × (r.message ≤ r.number)
  pub day : r.day ≤ 84005
  pub class : has p.rows r.path ≡ true

-- the records, the numbers of the messages, and the holds are an archive's
pub record AreRows (p : Listing) (rs : List Record) (ms : List ℕ) (hs : List HoldEntry) : Type 0 where
  pub records : All (IsSound p) rs
  -- the records are in the order of their numbers, each once
  pub in_order : IsStrictlySortedBy nat_cmp (map (λ (r : Record). r.number) rs)
  -- the messages are in the order of their numbers, each once
  pub messages : IsStrictlySortedBy nat_cmp ms
  -- a message is there exactly where a live record names it
  pub named : (m : ℕ) → is_one_of ms m ≡ is_named rs m
  -- each hold names a live record
  pub held : All (λ (h : HoldEntry). is_live rs h.number ≡ true) hs
  -- the holds are in the order of their records and names, each once
  pub once : IsStrictlySortedBy hold_cmp hs
