-- What captures and due lists say about records.
use Rattle.std.specs.Prelude.{◌≡◌, ℕ, ◌<◌, ◌≤◌, List, [], ◌∷◌, ◌++◌, map, false, Option, Some, pos, option_map, All, Contains}
use Rattle.std.specs.List.{AllZip}
use Rattle.class_paths.specs.Path.{unfiled}
use Rattle.class_plan.specs.Plans.{Listing, is_open_in}
use Rattle.class_plan.specs.Calendar.{due_on}
use Rattle.sieve_meaning.specs.declared.outcome.Outcome.{Outcome}
use Rattle.sieve_meaning.specs.declared.run_fault.RunFault.{RunFault}
use Rattle.sieve_meaning.specs.Case.{Facts}
use Rattle.filing_image.specs.Program.{Program}
use Rattle.mail_case.specs.Message.{case_of}
use Rattle.filing_table.specs.Ends.{HasOutcome}
use Rattle.record_archive.specs.Archive.{Record, Archive, Line, due_list, is_held}
use Rattle.desk_commands.specs.Answers.{dry_run}
use Rattle.desk_commands.specs.Office.{Office, PlainCommand}
use Rattle.desk_commands.specs.Parts.{IsGoodImage}
use Rattle.desk_commands.specs.Pinning.{BeginState, IsAlone}
use Rattle.desk_commands.specs.Standing.{Standing, Step, plain}

-- a capture that ended in a fault is in the default class alone
abbrev pub IsFaultAlone : Outcome → Type 0
IsFaultAlone o = (fault : RunFault) → o.fault ≡ Some fault → o.classes ≡ unfiled ∷ []

-- the run of the program in the case ends within its budget, with this outcome
pub record EndsWithinBudget (p : Program) (c : Facts) (o : Outcome) : Type 0 where
  pub steps : ℕ
  pub within : steps ≤ p.budget
  pub outcome : HasOutcome p c steps o

-- a command is answered with this outcome of a dry run, and leaves the new state
abbrev pub IsDryRun : Standing → PlainCommand → Outcome → (new : Standing) → Type 0
IsDryRun s c o new = Step s (plain c) (dry_run o) new

-- The octets are the image of a program. Its run on the message, with the open classes of the plan, ends within its
-- budget and with this outcome.
abbrev pub ImageEnds : Office → (octets message : List ℕ) → Outcome → Type 0
ImageEnds s octets message o =
    (p : Program) × IsGoodImage octets p × EndsWithinBudget p (case_of message (is_open_in s.archive.plan)) o

-- the line of a record: its number, its class, and its due day, if its period ends: the day that comes the class's period
-- after its own, or the last day of that year where the schedule says so
pub record IsLineOf (plan : Listing) (r : Record) (l : Line) : Type 0 where
  pub number : l.number ≡ r.number
  pub class : l.path ≡ r.path
  pub due : l.due ≡ option_map pos (due_on plan r.path r.day)

-- A capture of what stood made a live record for each of its classes, and no other. Each is of the message, with the
-- day that stood, and is numbered above all earlier ones. The lines report them in order. Plan and holds are as they
-- were.
pub record IsMadeWhole (old : Archive) (at_begin : BeginState) (o : Outcome) (lines : List Line) (new : Archive) : Type 0 where
  pub records : List Record
  pub added : new.records ≡ old.records ++ records
  pub classes : map (λ (r : Record). r.path) records ≡ o.classes
  pub days : All (λ (r : Record). r.day ≡ at_begin.day) records
  pub live : All (λ (r : Record). r.destroyed ≡ false) records
  pub numbers : All (λ (r : Record). All (λ (x : Record). x.number < r.number) old.records) records
  pub messages : All (λ (r : Record). Contains new.messages (record { number = r.message; body = at_begin.message })) records
  pub told : AllZip (IsLineOf old.plan) records lines
  pub plan : new.plan ≡ old.plan
  pub holds : new.holds ≡ old.holds

-- what a finish answers and leaves: the records of the outcome of the capture alone, whose fault it answers
pub record FilesAlone (old : Archive) (at_begin : BeginState) (fault : Option RunFault) (lines : List Line)
    (new : Archive) : Type 0 where
  pub outcome : Outcome
  pub alone : IsAlone at_begin outcome
  pub fault_alone : IsFaultAlone outcome
  pub told : fault ≡ outcome.fault
  pub whole : IsMadeWhole old at_begin outcome lines new

-- a live record without a hold, whose class's period ends by the day
pub record IsDueBy (a : Archive) (day : ℕ) (r : Record) : Type 0 where
  pub live : r.destroyed ≡ false
  pub free : is_held a r.number ≡ false
  pub due : ℕ
  pub ends : due_on a.plan r.path r.day ≡ Some due
  pub reached : due ≤ day

-- the line of a record that is due
abbrev pub IsDueLine : Archive → (day : ℕ) → Line → Type 0
IsDueLine a day l = (r : Record) × Contains a.records r × IsDueBy a day r × IsLineOf a.plan r l

-- the due list of the day, each line of which is that of a record that is due
abbrev pub IsDueList : Archive → (day : ℕ) → List Line → Type 0
IsDueList a day lines = (lines ≡ due_list a day) × All (IsDueLine a day) lines
