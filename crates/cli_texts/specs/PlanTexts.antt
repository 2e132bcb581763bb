-- The texts of plans, as plan files have them.
use Rattle.std.specs.Prelude.{ℕ, Bool, not, ◌&&◌, if◌then◌else◌, List, [], ◌∷◌, ◌++◌, flat_map, Option, Some, None, is_some, codes, Result, Ok, Err}
use Rattle.std.specs.Str.{bytes_eq}
use Rattle.class_plan.specs.declared.faults.PlanFault.{PlanFault}
use Rattle.class_plan.specs.declared.schedules.Schedule.{Schedule}
use Rattle.class_plan.specs.Plans.{Listing, Row, schedule_at}
use Rattle.class_plan.specs.Texts.{text_of}
use Rattle.cli_texts.specs.Rows.{shown_octets}

-- a key with a schedule, as `root = "7 years destroy"`
abbrev pub schedule_line : (key : List ℕ) → Schedule → List ℕ
schedule_line key schedule = key ++ codes " = \"" ++ shown_octets (text_of schedule) ++ codes "\"\n"

abbrev pub own_line : Option Schedule → List ℕ
own_line None = []
own_line (Some schedule) = schedule_line (codes "schedule") schedule

-- the schedule of a class that has one of its own
abbrev pub stated_line : Listing → (path : List ℕ) → (has_own : Bool) → List ℕ
stated_line p path has_own = if has_own then own_line (schedule_at p path) else []

abbrev pub open_line : (is_open : Bool) → List ℕ
open_line is_open = if is_open then [] else codes "open = false\n"

abbrev pub class_lines : Listing → (path : List ℕ) → (is_open has_own : Bool) → List ℕ
class_lines p path is_open has_own =
    codes "\n[[class]]\npath = \"" ++ shown_octets path ++ codes "\"\n" ++ stated_line p path has_own ++ open_line is_open

-- each plan has the class `unfiled`, which is not listed where it has nothing of its own
abbrev pub listed_lines : Listing → (path : List ℕ) → (is_open has_own : Bool) → List ℕ
listed_lines p path is_open has_own =
    if bytes_eq path (codes "unfiled") && not has_own then [] else class_lines p path is_open has_own

abbrev pub row_lines : Listing → Row → List ℕ
row_lines p r = listed_lines p r.path r.is_open (is_some r.schedule)

-- THE TEXT OF A PLAN: the schedule of the root, and its classes in byte order of their paths
abbrev pub plan_lines : Listing → List ℕ
plan_lines p = schedule_line (codes "root") p.root ++ flat_map (row_lines p) p.rows

abbrev pub if_written : (text : List ℕ) → Listing → Option Listing
if_written text p = if bytes_eq (plan_lines p) text then Some p else None

-- the plan that was read from a text, where its text is the same again
abbrev pub plan_written : Result Listing PlanFault → (text : List ℕ) → Option Listing
plan_written (Ok p) text = if_written text p
plan_written (Err fault) text = None
