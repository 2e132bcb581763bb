-- Classes as they are listed, in a file or by a caller, and the plan that they make.
use Rattle.std.specs.Prelude.{◌≡◌, ℕ, ◌+◌, nat_lt, Bool, true, false, not, ◌||◌, if◌then◌else◌, List, [], ◌∷◌, map, length, Option, Some, None, is_some, unwrap_or, Result}
use Rattle.std.specs.Str.{bytes_eq}
use Rattle.std.specs.List.{All, list_any}
use Rattle.class_paths.specs.Path.{is_path, has_parent_in, unfiled}
use Rattle.class_plan.specs.declared.faults.PlanFault.{PlanFault}
use Rattle.class_plan.specs.declared.faults.PlanFault.TheVariants.{BadPath, ParentMissing, PathTwice, BadSchedule, TooManyClasses}
use Rattle.class_plan.specs.declared.schedules.Schedule.{Schedule}
use Rattle.class_plan.specs.declared.schedules.Schedule.TheVariants.{Permanent}
use Rattle.class_plan.specs.declared.entries.Stated.{Stated}
use Rattle.class_plan.specs.declared.entries.Stated.TheVariants.{Nothing, Faulty, Own}
use Rattle.class_plan.specs.declared.entries.Listed.{Listed}
use Rattle.class_plan.specs.Faults.{verdict}
use Rattle.class_plan.specs.Schedules.{IsInRangeIfAny}
use Rattle.class_plan.specs.Plans.{Row, Listing, has, with_row, open_row}

-- a class as it is listed
pub record Entry : Type 0 where
  pub path : List ℕ
  pub is_open : Bool
  pub stated : Stated

-- the entry of a listed class
abbrev pub entry_view : Listed → Entry
entry_view l = record { path = l.path.now; is_open = l.is_open; stated = l.stated }

-- what is listed: the root's schedule, None where it is not well made, and the classes in their
-- order
pub record Contents : Type 0 where
  pub root : Option Schedule
  pub entries : List Entry

-- the contents of a root's schedule and listed classes
abbrev pub contents : Option Schedule → List Listed → Contents
contents root listed = record { root = root; entries = map entry_view listed }

abbrev pub is_faulty : Stated → Bool
is_faulty Faulty = true
is_faulty _ = false

abbrev pub own_of : Stated → Option Schedule
own_of (Own s) = Some s
own_of _ = None

-- the statement of a schedule that may be missing, or not well made (Some None)
abbrev pub stated_if : Option (Option Schedule) → Stated
stated_if None = Nothing
stated_if (Some None) = Faulty
stated_if (Some (Some s)) = Own s

abbrev pub row_of : Entry → Row
row_of e = record { path = e.path; is_open = e.is_open; schedule = own_of e.stated }

-- what holds of a listed class before it is judged: its schedule is in range, and `unfiled` is open
pub record IsListableEntry (e : Entry) : Type 0 where
  pub range : IsInRangeIfAny (own_of e.stated)
  pub unfiled_open : bytes_eq e.path unfiled ≡ true → e.is_open ≡ true

pub record IsListable (f : Contents) : Type 0 where
  pub root : IsInRangeIfAny f.root
  pub entries : All IsListableEntry f.entries

-- the classes that are listed, each put at its place
abbrev pub rows_from : List Row → List Entry → List Row
rows_from rs [] = rs
rows_from rs (e ∷ es) = rows_from (with_row (row_of e) rs) es

-- some entry has that path
abbrev pub is_listed : List ℕ → List Entry → Bool
is_listed q es = list_any (λ e. bytes_eq q e.path) es

-- a path appears again, after those already seen
abbrev pub comes_again : List Entry → List Entry → Bool
comes_again seen [] = false
comes_again seen (e ∷ es) = is_listed e.path seen || comes_again (e ∷ seen) es

-- the classes, with `unfiled` added where it is not listed, open and without a schedule of its own
abbrev pub with_unfiled : List Row → List Row
with_unfiled rs = if has rs unfiled then rs else with_row (open_row unfiled) rs

-- the number of classes, `unfiled` among them
abbrev pub class_count_of : List Entry → ℕ
class_count_of es = length es + (if is_listed unfiled es then 0 else 1)

-- a path is one of the classes': it is listed, or `unfiled`
abbrev pub is_known : List Entry → List ℕ → Bool
is_known es q = bytes_eq q unfiled || is_listed q es

-- the faults of the contents
abbrev pub contents_faults : Contents → PlanFault → Bool
contents_faults f BadPath = list_any (λ e. not (is_path e.path)) f.entries
contents_faults f ParentMissing = list_any (λ e. not (has_parent_in (is_known f.entries) e.path)) f.entries
contents_faults f PathTwice = comes_again [] f.entries
contents_faults f BadSchedule = not (is_some f.root) || list_any (λ e. is_faulty e.stated) f.entries
contents_faults f TooManyClasses = nat_lt 4096 (class_count_of f.entries)
contents_faults f _ = false

-- the plan that the contents make, where they have no fault
abbrev pub listing_of : Contents → Listing
listing_of f = record { root = unwrap_or f.root Permanent; rows = with_unfiled (rows_from [] f.entries) }

-- the plan that the contents make, or the fault with the smallest number
abbrev pub plan_of : Contents → Result Listing PlanFault
plan_of f = verdict (contents_faults f) (listing_of f)
