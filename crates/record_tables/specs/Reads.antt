-- What queries show of the tables.
use Rattle.std.specs.Prelude.{◌≡◌, ◌<◌, ◌^◌, map, filter, ℕ, pos, List, [], ◌∷◌, Bool, IsPermutation, int_le}
use Rattle.std.specs.Ordering.{int_cmp, nat_cmp, ordering_then}
use Rattle.std.specs.declared.cmp.Ordering.{Ordering}
use Rattle.std.specs.declared.cmp.Ordering.TheVariants.{Less}
use Rattle.std.specs.Cmp.Lexicographic.{slice_cmp}
use Rattle.sqlite.specs.declared.types.Value.TheVariants.{Int, Text as Words}
use Rattle.sqlite.specs.Order.{Row, column}
use Rattle.sqlite.specs.Effect.{Database}
use Rattle.sqlite_typed.specs.Columns.{or_null}
use Rattle.sqlite_keyed.specs.Lists.{sort_by}
use Rattle.sqlite_trees.specs.Tree.{IsAscending}
use Rattle.record_items.specs.Items.{Message, Record}
use Rattle.record_tables.specs.Rows.{Tables, Hold, Setting, Class, Schedule, Due, AreKeyed, as_flag}
use Rattle.record_tables.specs.Changes.{ClassEntry, Rule}

-- ---- records

abbrev pub record_values : Record → Row
record_values r = Int (pos r.number) ∷ Int (pos r.message) ∷ Words r.path ∷ Int (pos r.day) ∷
    Int (as_flag r.destroyed) ∷ []

-- the columns of the row are the record's
pub record ReadsRecord (row : Row) (r : Record) : Type 0 where
  pub number : column row 0 ≡ Int (pos r.number)
  pub message : column row 1 ≡ Int (pos r.message)
  pub path : column row 2 ≡ Words r.path
  pub day : column row 3 ≡ Int (pos r.day)
  pub destroyed : column row 4 ≡ Int (as_flag r.destroyed)

-- the numbers fit in 32 bits
pub record FitsRecord (r : Record) : Type 0 where
  pub number : r.number < 2 ^ 32
  pub message : r.message < 2 ^ 32
  pub day : r.day < 2 ^ 32

-- ---- numbers of messages

abbrev pub number_values : ℕ → Row
number_values n = Int (pos n) ∷ []

abbrev pub ReadsNumber : Row → ℕ → Type 0
ReadsNumber row n = column row 0 ≡ Int (pos n)

abbrev pub FitsNumber : ℕ → Type 0
FitsNumber n = n < 2 ^ 32

abbrev pub numbers_of : Tables → List ℕ
numbers_of t = map (λ (m : Message). m.number) t.messages

-- ---- due days

abbrev pub due_values : Due → Row
due_values d = Int (pos d.number) ∷ Int (pos d.day) ∷ []

-- not later than the day
abbrev pub is_by : ℕ → Due → Bool
is_by day d = int_le (pos d.day) (pos day)

-- by day, then by record
abbrev pub due_cmp : Due → Due → Ordering
due_cmp x y = ordering_then (int_cmp (pos x.day) (pos y.day)) (int_cmp (pos x.number) (pos y.number))

-- the due days up to a day, in order
abbrev pub dues_by : ℕ → Tables → List Due
dues_by day t = sort_by due_cmp (filter (is_by day) t.dues)

-- ---- classes

abbrev pub class_values : ClassEntry → Row
class_values c = Words c.path ∷ Int (as_flag c.is_open) ∷ or_null Words c.schedule ∷ []

pub record ReadsClass (row : Row) (c : ClassEntry) : Type 0 where
  pub path : column row 0 ≡ Words c.path
  pub is_open : column row 1 ≡ Int (as_flag c.is_open)
  pub schedule : column row 2 ≡ or_null Words c.schedule

abbrev pub class_entry : Class → ClassEntry
class_entry c = record { path = c.path; is_open = c.is_open; schedule = c.schedule }

-- these are the classes of the table, in byte order of their paths
pub record AreClassRows (t : Tables) (cs : List ClassEntry) : Type 0 where
  pub same : IsPermutation (map class_entry t.classes) cs
  pub in_order : IsAscending (λ (x y : ClassEntry). slice_cmp nat_cmp x.path y.path ≡ Less) cs

-- ---- schedules

abbrev pub rule_values : Rule → Row
rule_values r = Words r.path ∷ Int (pos r.count) ∷ Int (pos r.unit) ∷ Int (pos r.action) ∷ Int (pos r.year_end) ∷ []

pub record ReadsRule (row : Row) (r : Rule) : Type 0 where
  pub path : column row 0 ≡ Words r.path
  pub count : column row 1 ≡ Int (pos r.count)
  pub unit : column row 2 ≡ Int (pos r.unit)
  pub action : column row 3 ≡ Int (pos r.action)
  pub year_end : column row 4 ≡ Int (pos r.year_end)

pub record FitsRule (r : Rule) : Type 0 where
  pub count : r.count < 2 ^ 32
  pub unit : r.unit < 2 ^ 32
  pub action : r.action < 2 ^ 32
  pub year_end : r.year_end < 2 ^ 32

abbrev pub rule : Schedule → Rule
rule s = record { path = s.path; count = s.count; unit = s.unit; action = s.action; year_end = s.year_end }

-- these are the schedules of the table, in byte order of their paths
pub record AreRules (t : Tables) (rs : List Rule) : Type 0 where
  pub same : IsPermutation (map rule t.schedules) rs
  pub in_order : IsAscending (λ (x y : Rule). slice_cmp nat_cmp x.path y.path ≡ Less) rs

-- ---- holds

-- a hold without its rowid
pub record HoldEntry : Type 0 where
  pub name : List ℕ
  pub number : ℕ

abbrev pub hold_entry : Hold → HoldEntry
hold_entry h = record { name = h.name; number = h.number }

abbrev pub hold_values : HoldEntry → Row
hold_values h = Words h.name ∷ Int (pos h.number) ∷ []

pub record ReadsHold (row : Row) (h : HoldEntry) : Type 0 where
  pub name : column row 0 ≡ Words h.name
  pub number : column row 1 ≡ Int (pos h.number)

abbrev pub FitsHold : HoldEntry → Type 0
FitsHold h = h.number < 2 ^ 32

-- by record, then by name
abbrev pub hold_cmp : HoldEntry → HoldEntry → Ordering
hold_cmp x y = ordering_then (int_cmp (pos x.number) (pos y.number)) (slice_cmp nat_cmp x.name y.name)

-- these are the holds of the table, in order
pub record AreHolds (t : Tables) (hs : List HoldEntry) : Type 0 where
  pub same : IsPermutation (map hold_entry t.holds) hs
  pub in_order : IsAscending (λ (x y : HoldEntry). hold_cmp x y ≡ Less) hs

-- ---- settings

-- a row of `meta` without its rowid
pub record Pair : Type 0 where
  pub key : List ℕ
  pub value : List ℕ

abbrev pub pair : Setting → Pair
pair s = record { key = s.key; value = s.value }

abbrev pub pair_values : Pair → Row
pair_values p = Words p.key ∷ Words p.value ∷ []

pub record ReadsPair (row : Row) (p : Pair) : Type 0 where
  pub key : column row 0 ≡ Words p.key
  pub value : column row 1 ≡ Words p.value

pub record ArePairs (t : Tables) (ps : List Pair) : Type 0 where
  pub same : IsPermutation (map pair t.settings) ps
  pub in_order : IsAscending (λ (x y : Pair). slice_cmp nat_cmp x.key y.key ≡ Less) ps

-- ---- rows of one kind in their order

-- this holds of the rows that are those of the tables, whatever tables the database stores
abbrev pub ForRows : {X : Type 0} → (StoresIn : Database → Tables → Type 0) → (Are : Tables → List X → Type 0) →
    Database → (List X → Type 0) → Type 0
ForRows StoresIn Are db Holds = (t : Tables) → (xs : List _) → Are t xs → StoresIn db t → AreKeyed t → Holds xs
