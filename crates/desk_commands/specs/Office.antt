-- The commands that have nothing to do with captures in flight: which answers each may have, and what it changes.
use Rattle.std.specs.Prelude.{◌≡◌, ℕ, true, false, ◌≤◌, ◌<◌, ◌⊎◌, List, [], length, if◌then◌else◌, None, is_some, Result, Ok, Err}
use Rattle.std.specs.Str.{bytes_eq}
use Rattle.sieve_syntax.specs.Tree.{CommandTrees}
use Rattle.sieve_meaning.specs.Program.{Commands}
use Rattle.sieve_meaning.specs.Reading.{program_of}
use Rattle.sieve_meaning.specs.declared.outcome.Outcome.{Outcome}
use Rattle.sieve_meaning.specs.Outcome as meaning
use Rattle.class_plan.specs.Plans.{Listing, is_open_in}
use Rattle.filing_image.specs.Program.{Program}
use Rattle.filing_table.specs.Ends.{HasOutcome}
use Rattle.mail_case.specs.Message.{case_of}
use Rattle.record_archive.specs.Archive as archives
use Rattle.record_archive.specs.Archive.{Archive, Line}
use Rattle.record_archive.specs.declared.fault.ArchiveRefusal.{ArchiveRefusal}
use Rattle.desk_commands.specs.Answers.{Answer, done, dry_run, begun, running, ended, captured, listed, refused}
use Rattle.record_archive.specs.Faults.{number_of}
use Rattle.desk_commands.specs.Faults.{has_place}
use Rattle.desk_commands.specs.Limits.{greatest_image, greatest_message, greatest_plan, greatest_script}
use Rattle.desk_commands.specs.Parts.{IsGood, IsGoodImage, IsKept, IsPlanOf, RefusesImage, RefusesPlan, RefusesScript, RefusesToKeep}
use Rattle.desk_commands.specs.Pinning.{Active, Officer, no_program, script_named, image, new_officer}
use Rattle.desk_commands.specs.Scripts.{script_at, library}

-- All of a desk's state but its captures in flight: the archive, the global scripts, and what each officer has set.
pub record Office : Type 0 where
  pub archive : Archive
  pub globals : List (List ℕ × Commands)
  pub officers : (name : List ℕ) → Officer

-- An archive, with nothing set.
abbrev pub opening_office : Archive → Office
opening_office a = record { archive = a; globals = []; officers = λ n. new_officer }

pub data PlainCommand : Type 0 where
  add_class : (path : List ℕ) → PlainCommand
  -- Takes over the plan of a text.
  set_plan : (text : List ℕ) → PlainCommand
  -- Keeps a script of an officer under a name.
  set_script : (officer name text : List ℕ) → PlainCommand
  -- Keeps a script under a name, for scripts of all officers that include it.
  set_global : (name text : List ℕ) → PlainCommand
  -- Sets the script of that name as the officer's program.
  activate : (officer name : List ℕ) → PlainCommand
  -- Sets no program.
  deactivate : (officer : List ℕ) → PlainCommand
  -- Sets an image as the officer's program.
  set_image : (officer octets : List ℕ) → PlainCommand
  -- Runs a script on a message, and stores nothing.
  file : (script message : List ℕ) → PlainCommand
  -- Runs an image on a message, and stores nothing.
  try_image : (octets message : List ℕ) → PlainCommand
  hold : (name : List ℕ) (number : ℕ) → PlainCommand
  release : (name : List ℕ) (number : ℕ) → PlainCommand
  -- A day is counted from 1970-01-01.
  due : (day : ℕ) → PlainCommand
  destroy : (number day : ℕ) → PlainCommand

abbrev pub with_archive : Office → Archive → Office
with_archive s a = record s { archive = a }

abbrev pub with_globals : Office → List (List ℕ × Commands) → Office
with_globals s scripts = record s { globals = scripts }

abbrev pub with_officer : Office → (name : List ℕ) → Officer → Office
with_officer s name o = record s { officers = λ n. if bytes_eq n name then o else s.officers n }

abbrev pub with_scripts : Officer → List (List ℕ × Commands) → Officer
with_scripts o scripts = record o { scripts = scripts }

abbrev pub with_program : Officer → Active → Officer
with_program o active = record o { active = active }

-- The office after an officer has set this program.
abbrev pub with_active : Office → (officer : List ℕ) → Active → Office
with_active s officer active = with_officer s officer (with_program (s.officers officer) active)

-- The archive's command is done, and this is the office afterwards.
abbrev pub IsMade : Office → Result Archive ArchiveRefusal → Office → Type 0
IsMade s (Ok a) new = new ≡ with_archive s a
IsMade s (Err f) new = ⊥

-- The archive's command is refused with this number.
abbrev pub IsRefused : Result Archive ArchiveRefusal → (number : ℕ) → Type 0
IsRefused (Ok a) n = ⊥
IsRefused (Err r) n = n ≡ number_of r

-- A script captures a message with this outcome. It can include the global scripts, no personal one, and has no name.
pub record IsFiled (s : Office) (script message : List ℕ) (o : Outcome) : Type 0 where
  pub tree : CommandTrees
  pub good : IsGood script tree
  pub short : length message ≤ greatest_message
  pub outcome : o ≡ meaning.outcome (case_of message (is_open_in s.archive.plan)) (library [] s.globals) None
      (program_of tree)

-- An image captures a message with this outcome, by its run on the message and the open classes of the plan.
pub record IsTried (s : Office) (octets message : List ℕ) (o : Outcome) : Type 0 where
  pub program : Program
  pub good : IsGoodImage octets program
  pub short : length message ≤ greatest_message
  pub steps : ℕ
  pub outcome : HasOutcome program (case_of message (is_open_in s.archive.plan)) steps o

-- The script is good, and the message too long.
pub record IsTooLong (script message : List ℕ) (number : ℕ) : Type 0 where
  pub tree : CommandTrees
  pub good : IsGood script tree
  pub long : greatest_message < length message
  pub is_number : number ≡ 95

-- The image may run, and the message is too long.
pub record IsTooLongToTry (octets message : List ℕ) (number : ℕ) : Type 0 where
  pub program : Program
  pub good : IsGoodImage octets program
  pub long : greatest_message < length message
  pub is_number : number ≡ 95

-- A command that answers only that it was done changes the office to this one.
abbrev pub Settles : Office → PlainCommand → Office → Type 0
Settles s (add_class path) new = IsMade s (archives.add_class s.archive path) new
Settles s (set_plan text) new = (p : Listing) × IsPlanOf text p × IsMade s (archives.revise s.archive p) new
Settles s (set_script officer name text) new =
    (scripts : List (List ℕ × Commands)) × IsKept (s.officers officer).scripts name text scripts ×
    (new ≡ with_officer s officer (with_scripts (s.officers officer) scripts))
Settles s (set_global name text) new = (scripts : List (List ℕ × Commands)) × IsKept s.globals name text scripts ×
    (new ≡ with_globals s scripts)
Settles s (activate officer name) new = (is_some (script_at name (s.officers officer).scripts) ≡ true) ×
    (new ≡ with_active s officer (script_named name))
Settles s (deactivate officer) new = new ≡ with_active s officer no_program
Settles s (set_image officer octets) new = (p : Program) × IsGoodImage octets p × (new ≡ with_active s officer (image p))
Settles s (file script message) new = ⊥
Settles s (try_image octets message) new = ⊥
Settles s (hold name r) new = IsMade s (archives.hold s.archive name r) new
Settles s (release name r) new = IsMade s (archives.release s.archive name r) new
Settles s (due day) new = ⊥
Settles s (destroy r day) new = IsMade s (archives.destroy s.archive r day) new

-- A dry run captures a message with this outcome.
abbrev pub Captures : Office → PlainCommand → Outcome → Type 0
Captures s (file script message) o = IsFiled s script message o
Captures s (try_image octets message) o = IsTried s octets message o
Captures s _ o = ⊥

-- The command lists these records.
abbrev pub Lists : Office → PlainCommand → List Line → Type 0
Lists s (due day) lines = lines ≡ archives.due_list s.archive day
Lists s _ lines = ⊥

-- A command is refused with this number by the rules of filing: that of the first check that fails.
abbrev pub Refuses : Office → PlainCommand → (number : ℕ) → Type 0
Refuses s (add_class path) n = IsRefused (archives.add_class s.archive path) n
Refuses s (set_plan text) n = RefusesPlan s.archive.plan text n
Refuses s (set_script officer name text) n = RefusesToKeep (s.officers officer).scripts name text n
Refuses s (set_global name text) n = RefusesToKeep s.globals name text n
Refuses s (activate officer name) n = (is_some (script_at name (s.officers officer).scripts) ≡ false) × (n ≡ 93)
Refuses s (deactivate officer) n = ⊥
Refuses s (set_image officer octets) n = RefusesImage octets n
Refuses s (file script message) n = RefusesScript script n ⊎ IsTooLong script message n
Refuses s (try_image octets message) n = RefusesImage octets n ⊎ IsTooLongToTry octets message n
Refuses s (hold name r) n = IsRefused (archives.hold s.archive name r) n
Refuses s (release name r) n = IsRefused (archives.release s.archive name r) n
Refuses s (due day) n = ⊥
Refuses s (destroy r day) n = IsRefused (archives.destroy s.archive r day) n

-- What a command answers by the rules of filing, and what it changes. Only a command that is answered by `done` changes
-- anything, and a refusal has an offset exactly where its number is shown with one.
abbrev pub OfficeRule : Office → PlainCommand → Answer → Office → Type 0
OfficeRule s c done new = Settles s c new
OfficeRule s c (dry_run o) new = (new ≡ s) × Captures s c o
OfficeRule s c (listed lines) new = (new ≡ s) × Lists s c lines
OfficeRule s c (refused n at) new = (new ≡ s) × (is_some at ≡ has_place n) × Refuses s c n
OfficeRule s c (begun t b) new = ⊥
OfficeRule s c (running k) new = ⊥
OfficeRule s c (ended k) new = ⊥
OfficeRule s c (captured f lines) new = ⊥

-- There was no memory. A payload over its limit is refused for its length instead.
abbrev pub LacksMemory : (limit : ℕ) (payload : List ℕ) (number : ℕ) → Type 0
LacksMemory limit payload number = (number ≡ 99) × (length payload ≤ limit)

-- There was no memory, or the database refused.
abbrev pub IsTrouble : (number : ℕ) → Type 0
IsTrouble number = (number ≡ 99) ⊎ (number ≡ 89)

-- A command is refused with this number for reasons other than the rules of filing. To choose a script takes memory, so
-- the officer has the script then.
abbrev pub GivesUp : Office → PlainCommand → (number : ℕ) → Type 0
GivesUp s (add_class path) n = IsTrouble n
GivesUp s (set_plan text) n = IsTrouble n × (length text ≤ greatest_plan)
GivesUp s (set_script officer name text) n = LacksMemory greatest_script text n
GivesUp s (set_global name text) n = LacksMemory greatest_script text n
GivesUp s (activate officer name) n = (n ≡ 99) × (is_some (script_at name (s.officers officer).scripts) ≡ true)
GivesUp s (deactivate officer) n = ⊥
GivesUp s (set_image officer octets) n = LacksMemory greatest_image octets n
GivesUp s (file script message) n = LacksMemory greatest_script script n
GivesUp s (try_image octets message) n = LacksMemory greatest_image octets n
GivesUp s (hold name r) n = IsTrouble n
GivesUp s (release name r) n = IsTrouble n
GivesUp s (due day) n = IsTrouble n
GivesUp s (destroy r day) n = IsTrouble n

-- The answers that a command may have, and what it changes.
abbrev pub OfficeStep : Office → PlainCommand → Answer → Office → Type 0
OfficeStep s c a new = OfficeRule s c a new ⊎ ((n : ℕ) × GivesUp s c n × (a ≡ refused n None) × (new ≡ s))
