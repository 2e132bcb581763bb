-- An archive, and what each command makes of it.
use Rattle.std.specs.Prelude.{◌≡◌, ◌≤◌, ◌<◌, ℕ, ◌+◌, ◌^◌, max, nat_le, ◌==◌, Bool, true, false, not, ◌&&◌, if◌then◌else◌, List, [], ◌∷◌, ◌++◌, map, filter, find, length, Option, Some, None, option_map, unwrap_or, Result, Ok, Err, All, ℤ, pos, negsuc}
use Rattle.std.specs.Str.{bytes_eq}
use Rattle.std.specs.List.{list_all, list_any}
use Rattle.std.specs.declared.cmp.Ordering.{Ordering}
use Rattle.std.specs.Ordering.{nat_cmp, int_cmp, ordering_then}
use Rattle.class_plan.specs.declared.faults.PlanFault.{PlanFault}
use Rattle.class_plan.specs.declared.faults.PlanFault.TheVariants.{PathDropped}
use Rattle.class_plan.specs.declared.schedules.Action.TheVariants.{Destroy}
use Rattle.class_plan.specs.declared.schedules.Schedule.{Schedule}
use Rattle.class_plan.specs.declared.schedules.Schedule.TheVariants.{After}
use Rattle.class_plan.specs.Changes.{addition}
use Rattle.class_plan.specs.Plans.{Listing, IsPlan, first_plan, has, keeps, schedule_at}
use Rattle.class_plan.specs.Calendar.{due_on}
pub use Rattle.record_items.specs.Items.{Message, Record}
use Rattle.record_archive.specs.Lists.{sort_by, IsAscending}
use Rattle.record_archive.specs.declared.fault.ArchiveRefusal.{ArchiveRefusal}
use Rattle.record_archive.specs.declared.fault.ArchiveRefusal.TheVariants as refusal

-- a hold, by its name, of a record
pub record Hold : Type 0 where
  pub name : List ℕ
  pub number : ℕ

-- a plan; the stored messages and the records, each in the order of their numbers; and the holds in the order in
-- which they were placed, on which no answer depends
pub record Archive : Type 0 where
  pub plan : Listing
  pub messages : List Message
  pub records : List Record
  pub holds : List Hold

-- the archive in which nothing was captured
abbrev pub empty_archive : Archive
empty_archive = record { plan = first_plan; messages = []; records = []; holds = [] }

-- a record as it is answered: its number, its path, and its due day, if it has one, counted from 1970-01-01
pub record Line : Type 0 where
  pub number : ℕ
  pub path : List ℕ
  pub due : Option ℤ

-- ---- what is looked up

abbrev pub has_number : ℕ → Record → Bool
has_number n r = r.number == n

abbrev pub record_at : Archive → ℕ → Option Record
record_at a n = find (has_number n) a.records

abbrev pub is_live : Record → Bool
is_live r = not r.destroyed

abbrev pub is_hold : List ℕ → ℕ → Hold → Bool
is_hold name n h = bytes_eq h.name name && (h.number == n)

abbrev pub is_held_by : Archive → List ℕ → ℕ → Bool
is_held_by a name n = list_any (is_hold name n) a.holds

-- some hold keeps the record
abbrev pub is_held : Archive → ℕ → Bool
is_held a n = list_any (λ (h : Hold). h.number == n) a.holds

abbrev pub due_of : Archive → Record → Option ℕ
due_of a r = due_on a.plan r.path r.day

abbrev pub line_of : Archive → Record → Line
line_of a r = record { number = r.number; path = r.path; due = option_map pos (due_of a r) }

-- there is a day, and it is not later than this one
abbrev pub is_by : ℕ → Option ℕ → Bool
is_by day None = false
is_by day (Some d) = nat_le d day

-- there are both days, and the second is not later than the first
abbrev pub is_by_any : Option ℕ → Option ℕ → Bool
is_by_any None due = false
is_by_any (Some day) due = is_by day due

-- a day by its number, which is none before 1970
abbrev pub from_1970 : ℤ → Option ℕ
from_1970 (pos n) = Some n
from_1970 (negsuc n) = None

-- the schedule's action is to destroy
abbrev pub destroys : Option Schedule → Bool
destroys (Some (After n u Destroy y)) = true
destroys _ = false

-- one above the greatest number
abbrev pub past_all : ℕ → List Record → ℕ
past_all n [] = n
past_all n (r ∷ rs) = past_all (max n (r.number + 1)) rs

abbrev pub next_number : Archive → ℕ
next_number a = past_all 1 a.records

-- ---- captures

-- live records of a message, numbered upwards
abbrev pub records_of : ℕ → ℕ → ℕ → List (List ℕ) → List Record
records_of n message day [] = []
records_of n message day (q ∷ qs) = record { number = n; message = message; path = q; day = day; destroyed = false } ∷ records_of (n + 1) message day qs

abbrev pub new_records : Archive → ℕ → List (List ℕ) → List Record
new_records a day paths = records_of (next_number a) (next_number a) day paths

-- one message and a record for each path; nothing where there is no path
abbrev pub after_capture : Archive → List ℕ → ℕ → List (List ℕ) → Archive
after_capture a body day [] = a
after_capture a body day (q ∷ qs) = record a { messages = a.messages ++ record { number = next_number a; body = body } ∷ []; records = a.records ++ new_records a day (q ∷ qs) }

-- a capture needs its numbers to be at most 4,294,967,295
abbrev pub has_room : Archive → List (List ℕ) → Bool
has_room a [] = true
has_room a (q ∷ qs) = nat_le (next_number a + length (q ∷ qs)) (2 ^ 32)

-- each path is a class of a plan
abbrev pub AreClasses : Listing → List (List ℕ) → Type 0
AreClasses p paths = list_all (has p.rows) paths ≡ true

abbrev pub capture : Archive → List ℕ → ℕ → List (List ℕ) → Result Archive ArchiveRefusal
capture a body day paths = if has_room a paths then Ok (after_capture a body day paths) else Err refusal.Full

-- what a capture answers: a line for each new record
abbrev pub capture_lines : Archive → ℕ → List (List ℕ) → List Line
capture_lines a day paths = map (line_of a) (new_records a day paths)

-- ---- holds

abbrev pub with_hold : Archive → List ℕ → ℕ → Archive
with_hold a name n = record a { holds = a.holds ++ record { name = name; number = n } ∷ [] }

abbrev pub without_hold : Archive → List ℕ → ℕ → Archive
without_hold a name n = record a { holds = filter (λ h. not (is_hold name n h)) a.holds }

abbrev pub hold_one : Archive → List ℕ → ℕ → Option Record → Result Archive ArchiveRefusal
hold_one a name n None = Err refusal.NoRecord
hold_one a name n (Some r) =
    if r.destroyed then Err refusal.Destroyed
    else if is_held_by a name n then Err refusal.HoldThere
    else Ok (with_hold a name n)

-- a hold of a live record, where that hold is not there
abbrev pub hold : Archive → List ℕ → ℕ → Result Archive ArchiveRefusal
hold a name n = hold_one a name n (record_at a n)

abbrev pub release_one : Archive → List ℕ → ℕ → Option Record → Result Archive ArchiveRefusal
release_one a name n None = Err refusal.NoRecord
release_one a name n (Some r) = if is_held_by a name n then Ok (without_hold a name n) else Err refusal.NoHold

-- the end of a hold that is there
abbrev pub release : Archive → List ℕ → ℕ → Result Archive ArchiveRefusal
release a name n = release_one a name n (record_at a n)

-- ---- destruction

abbrev pub destruction_of : Record → Record
destruction_of r = record r { destroyed = true }

-- another live record has the message
abbrev pub is_shared : Archive → Record → Bool
is_shared a r = list_any (λ (x : Record). is_live x &&
    ((x.message == r.message) && not (x.number == r.number))) a.records

abbrev pub messages_without : Archive → Record → List Message
messages_without a r = if is_shared a r then a.messages
    else filter (λ (m : Message). not (m.number == r.message)) a.messages

-- the record's number, path and day stay, and the message is removed with its last live record
abbrev pub without : Archive → Record → Archive
without a r = record a { messages = messages_without a r; records = map (λ x. if has_number r.number x then destruction_of x else x) a.records }

-- by no day no record is due
abbrev pub destroy_by : Archive → ℕ → Option ℕ → Option Record → Result Archive ArchiveRefusal
destroy_by a n day None = Err refusal.NoRecord
destroy_by a n day (Some r) =
    if r.destroyed then Err refusal.Destroyed
    else if is_held a n then Err refusal.Held
    else if not (destroys (schedule_at a.plan r.path)) then Err refusal.NotForDestruction
    else if not (is_by_any day (due_of a r)) then Err refusal.NotDue
    else Ok (without a r)

abbrev pub destroy_one : Archive → ℕ → ℕ → Option Record → Result Archive ArchiveRefusal
destroy_one a n day = destroy_by a n (Some day)

-- the destruction of a live record that no hold keeps, whose schedule destroys it and that is due by the day
abbrev pub destroy : Archive → ℕ → ℕ → Result Archive ArchiveRefusal
destroy a n day = destroy_one a n day (record_at a n)

-- the same by a day by its number; by one before 1970 no record is due
abbrev pub destroy_on : Archive → ℕ → ℤ → Result Archive ArchiveRefusal
destroy_on a n day = destroy_by a n (from_1970 day) (record_at a n)

-- ---- the plan

abbrev pub plan_answer : Archive → Result Listing PlanFault → Result Archive ArchiveRefusal
plan_answer a (Ok p) = Ok (record a { plan = p })
plan_answer a (Err f) = Err (refusal.Plan f)

abbrev pub add_class : Archive → List ℕ → Result Archive ArchiveRefusal
add_class a q = plan_answer a (addition a.plan q)

abbrev pub revise : Archive → Listing → Result Archive ArchiveRefusal
revise a p = if keeps a.plan p then Ok (record a { plan = p }) else Err (refusal.Plan PathDropped)

-- ---- what is read

abbrev pub body_of : List Message → ℕ → Option (List ℕ)
body_of [] n = None
body_of (m ∷ ms) n = if m.number == n then Some m.body else body_of ms n

abbrev pub message_one : Archive → Option Record → Result (Option (List ℕ)) ArchiveRefusal
message_one a None = Err refusal.NoRecord
message_one a (Some r) = if r.destroyed then Err refusal.Destroyed else Ok (body_of a.messages r.message)

-- the message of a record
abbrev pub message : Archive → ℕ → Result (Option (List ℕ)) ArchiveRefusal
message a n = message_one a (record_at a n)

-- a live record without a hold whose due day is not later
abbrev pub is_due : Archive → ℕ → Record → Bool
is_due a day r = is_live r && (not (is_held a r.number) && is_by day (due_of a r))

-- by due day, then by number; each line of a due list has a due day
abbrev pub line_cmp : Line → Line → Ordering
line_cmp x y = ordering_then (int_cmp (unwrap_or x.due (pos 0)) (unwrap_or y.due (pos 0))) (nat_cmp x.number y.number)

-- the due list of a day, in the plan as it is now
abbrev pub due_list : Archive → ℕ → List Line
due_list a day = sort_by line_cmp (map (line_of a) (filter (is_due a day) a.records))

-- the due list of a day by its number, which is none before 1970
abbrev pub due_list_on : Archive → ℤ → List Line
due_list_on a (pos n) = due_list a n
due_list_on a (negsuc n) = []

-- ---- which rows are an archive

-- a live record names the message
abbrev pub is_named : List Record → ℕ → Bool
is_named rs m = list_any (λ (r : Record). is_live r && (r.message == m)) rs

abbrev pub has_message : List Message → ℕ → Bool
has_message ms n = list_any (λ (m : Message). m.number == n) ms

-- what holds of each record
pub record IsRecord (a : Archive) (r : Record) : Type 0 where
  pub number : (1 ≤ r.number) × (r.number < 2 ^ 32)
  pub message : (1 ≤ r.message) × (r.message ≤ r.number)
  pub day : r.day ≤ 84005
  pub class : has a.plan.rows r.path ≡ true
  pub stored : r.destroyed ≡ false → has_message a.messages r.message ≡ true

pub record IsArchive (a : Archive) : Type 0 where
  pub plan : IsPlan a.plan
  pub records : All (IsRecord a) a.records
  pub in_order : IsAscending (λ (x y : Record). x.number < y.number) a.records
  pub messages : IsAscending (λ (x y : Message). x.number < y.number) a.messages
  -- each message is named by a live record
  pub named : All (λ (m : Message). is_named a.records m.number ≡ true) a.messages
  -- each hold names a live record
  pub held : All (λ (h : Hold). list_any (λ (r : Record). is_live r && has_number h.number r) a.records ≡ true) a.holds
  -- each hold is there once
  pub once : IsAscending (λ (x y : Hold). is_hold x.name x.number y ≡ false) a.holds
