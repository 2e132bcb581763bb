-- Plans of classes, what they answer about a path, and what holds of every plan.
use Rattle.std.specs.Prelude.{◌≡◌, ℕ, suc, ◌<◌, ◌≤◌, ◌⊎◌, take, slice_index, Bool, true, false, if◌then◌else◌, List, [], ◌∷◌, map, filter, length, Option, Some, None, is_some, option_map, option_and_then, unwrap_or}
use Rattle.std.specs.Str.{bytes_eq}
use Rattle.std.specs.List.{All, list_all, list_any}
use Rattle.std.specs.List.Sorted.{IsStrictlySortedBy}
use Rattle.std.specs.Ordering.{nat_cmp, match_ordering}
use Rattle.std.specs.Cmp.Lexicographic.{slice_cmp}
use Rattle.class_paths.specs.Path.{is_path, ancestors, has_parent_in, unfiled}
use Rattle.class_plan.specs.declared.schedules.Schedule.{Schedule}
use Rattle.class_plan.specs.declared.schedules.Schedule.TheVariants.{Permanent}
use Rattle.class_plan.specs.Schedules.{IsInRange, IsInRangeIfAny}

-- a class: its path, whether it is open, and its own schedule, if it has one
pub record Row : Type 0 where
  pub path : List ℕ
  pub is_open : Bool
  pub schedule : Option Schedule

-- a plan: the root's schedule, and the classes in byte order of their paths
pub record Listing : Type 0 where
  pub root : Schedule
  pub rows : List Row

-- an open class without a schedule of its own
abbrev pub open_row : List ℕ → Row
open_row q = record { path = q; is_open = true; schedule = None }

-- the plan of `unfiled` alone
abbrev pub first_plan : Listing
first_plan = record { root = Permanent; rows = open_row unfiled ∷ [] }

-- the class with that path
abbrev pub row_at : List ℕ → List Row → Option Row
row_at q [] = None
row_at q (x ∷ xs) = if bytes_eq q x.path then Some x else row_at q xs

-- whether there is a class with that path
abbrev pub has : List Row → List ℕ → Bool
has rows q = is_some (row_at q rows)

-- a class put at its place in byte order, instead of one with that path
abbrev pub with_row : Row → List Row → List Row
with_row r [] = r ∷ []
with_row r (x ∷ xs) = match_ordering (slice_cmp nat_cmp r.path x.path) (r ∷ x ∷ xs) (record { path = x.path; is_open = r.is_open; schedule = r.schedule } ∷ xs) (x ∷ with_row r xs)

-- whether a path is, octet for octet, an open class
abbrev pub open_at : List Row → List ℕ → Bool
open_at rows q = unwrap_or (option_map (λ r. r.is_open) (row_at q rows)) false

abbrev pub is_open_in : Listing → List ℕ → Bool
is_open_in p q = open_at p.rows q

-- the own schedule of the class with that path
abbrev pub own_at : List Row → List ℕ → Option Schedule
own_at rows q = option_and_then (λ r. r.schedule) (row_at q rows)

-- the first own schedule of the classes at some paths, or else the root's
abbrev pub first_own : Listing → List (List ℕ) → Schedule
first_own p [] = p.root
first_own p (q ∷ qs) = unwrap_or (own_at p.rows q) (first_own p qs)

-- the schedule of a class: its own, or else that of its nearest ancestor that has one, or else the
-- root's; None for a path that is no class
abbrev pub schedule_at : Listing → List ℕ → Option Schedule
schedule_at p q = if has p.rows q then Some (first_own p (q ∷ ancestors q)) else None

-- no ancestor of q has a schedule of its own, where its path has k octets or more; the path of an
-- ancestor is a prefix of q that a "/" follows
abbrev pub HasNoneFrom : Listing → List ℕ → ℕ → Type 0
HasNoneFrom p q k = (j : ℕ) → k ≤ j → j < length q → slice_index q j ≡ 47 → own_at p.rows (take j q) ≡ None

-- s is the own schedule of the nearest ancestor of q that has one
pub record IsFromAncestor (p : Listing) (q : List ℕ) (s : Schedule) : Type 0 where
  pub place : ℕ
  pub within : place < length q
  pub slash : slice_index q place ≡ 47
  pub own : own_at p.rows (take place q) ≡ Some s
  pub nearest : HasNoneFrom p q (suc place)

-- s is that of the nearest ancestor that has one, or the root's where none has one
abbrev pub IsFromAbove : Listing → List ℕ → Schedule → Type 0
IsFromAbove p q s = IsFromAncestor p q s ⊎ (HasNoneFrom p q 0 × (s ≡ p.root))

-- s is the class's own, or that from above where it has none
abbrev pub IsScheduleOf : Listing → List ℕ → Schedule → Type 0
IsScheduleOf p q s = (own_at p.rows q ≡ Some s) ⊎ ((own_at p.rows q ≡ None) × IsFromAbove p q s)

-- each class of the old plan is one of the new
abbrev pub keeps : Listing → Listing → Bool
keeps old new = list_all (λ r. has new.rows r.path) old.rows

-- the paths of the open classes, in byte order
abbrev pub paths_of : List Row → List (List ℕ)
paths_of rows = map (λ r. r.path) rows

-- whether a path is among some, octet for octet
abbrev pub is_among : List (List ℕ) → List ℕ → Bool
is_among paths q = list_any (bytes_eq q) paths

abbrev pub open_paths_of : Listing → List (List ℕ)
open_paths_of p = paths_of (filter (λ r. r.is_open) p.rows)

-- what holds of each class of a plan with these rows
pub record IsClass (rows : List Row) (r : Row) : Type 0 where
  pub path : is_path r.path ≡ true
  pub parent : has_parent_in (has rows) r.path ≡ true
  pub range : IsInRangeIfAny r.schedule

-- what holds of every plan
pub record IsPlan (p : Listing) : Type 0 where
  pub root : IsInRange p.root
  pub classes : All (IsClass p.rows) p.rows
  pub unfiled_open : is_open_in p unfiled ≡ true
  pub few : length p.rows ≤ 4096
  pub in_order : IsStrictlySortedBy (slice_cmp nat_cmp) (paths_of p.rows)
