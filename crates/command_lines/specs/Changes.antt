-- What is asked of holds, of classes and of the destruction of records.
use Rattle.std.specs.Prelude.{◌≡◌, ℕ, ◌&&◌, ◌==◌, not, Bool, true, false, List, length, codes, Some, IfSome}
use Rattle.clap.specs.declared.parser.matches.Found.{Found}
use Rattle.choice_words.specs.Readings.{reads_as_numbers}
use Rattle.choice_words.specs.declared.typed.TypedChoice.{TypedChoice}
use Rattle.session_words.specs.Words.{is_name}
use Rattle.command_lines.specs.Asked.{is_given, text_of, value_in, values_in}
use Rattle.command_lines.specs.Chosen.{AreHeld, IsUnnamed}
use Rattle.command_lines.specs.Days.{IsDay}
use Rattle.command_lines.specs.Numbers.{AreTyped}
use Rattle.command_lines.specs.declared.archives.ChosenTask.TheVariants as task
use Rattle.command_lines.specs.declared.archives.Command.{Command}
use Rattle.command_lines.specs.declared.archives.Command.TheVariants as command
use Rattle.command_lines.specs.declared.archives.approvals.DisposalAsked.{DisposalAsked}
use Rattle.command_lines.specs.declared.archives.approvals.TypedDisposal.{TypedDisposal}
use Rattle.command_lines.specs.declared.archives.refilings.Refiling.{Refiling}

-- ---- holds

-- the name of a hold: as it is typed, and a name
pub record IsHoldName (found : Found) (name : List ℕ) : Type 0 where
  pub typed : value_in found (codes "name") ≡ Some name
  pub good : is_name name ≡ true

-- the name of a hold that is to be placed: none that reads as numbers of records
pub record IsNewName (found : Found) (name : List ℕ) : Type 0 where
  pub named : IsHoldName found name
  pub place : reads_as_numbers name ≡ false

pub record HoldsThese (found : Found) (choice : TypedChoice) (hold : List ℕ) : Type 0 where
  pub name : IsNewName found hold
  pub held : AreHeld found choice

-- A HOLD IS PLACED: on the records that are named, by the name that is typed
abbrev pub IsHolding : Found → Command → Type 0
IsHolding found (command.Chosen choice (task.Hold name)) = HoldsThese found choice name.now
IsHolding found other = ⊥

-- no record is named beside the whole hold
pub record EndsAlone (found : Found) (hold typed : List ℕ) (is_agreed : Bool) : Type 0 where
  pub name : hold ≡ typed
  pub agreed : is_agreed ≡ is_given found (codes "yes")
  pub unnamed : IsUnnamed found

-- the whole hold of a name ends
abbrev pub IsWhole : Found → (name : List ℕ) → Command → Type 0
IsWhole found typed (command.ReleaseAll name is_agreed) = EndsAlone found name.now typed is_agreed
IsWhole found typed other = ⊥

pub record EndsWhole (found : Found) (hold : List ℕ) (is_agreed : Bool) : Type 0 where
  pub name : IsHoldName found hold
  pub all : is_given found (codes "all") ≡ true
  pub agreed : is_agreed ≡ is_given found (codes "yes")
  pub unnamed : IsUnnamed found

pub record EndsOnThese (found : Found) (choice : TypedChoice) (hold : List ℕ) : Type 0 where
  pub name : IsHoldName found hold
  pub all : is_given found (codes "all") ≡ false
  pub agreed : is_given found (codes "yes") ≡ false
  pub held : AreHeld found choice

-- A HOLD ENDS: on each record by `--all` alone, where no record is named, and else on the records that are named. Nobody is asked before
-- only where `--yes` is given, and that needs `--all`.
abbrev pub IsRelease : Found → Command → Type 0
IsRelease found (command.ReleaseAll name is_agreed) = EndsWhole found name.now is_agreed
IsRelease found (command.Chosen choice (task.Release name)) = EndsOnThese found choice name.now
IsRelease found other = ⊥

-- ---- classes

pub record Refiles (found : Found) (choice : TypedChoice) (refiling : Refiling) : Type 0 where
  pub to : value_in found (codes "to") ≡ Some refiling.to.now
  pub reason : IfSome (value_in found (codes "reason")) (λ reason. (length reason == 0) ≡ false)
  pub agreed : refiling.is_agreed ≡ is_given found (codes "yes")
  pub held : AreHeld found choice

-- RECORDS GET ANOTHER CLASS: those that are named, the class that is typed, for a reason
abbrev pub IsRefile : Found → Command → Type 0
IsRefile found (command.Chosen choice (task.Refile refiling)) = Refiles found choice refiling
IsRefile found other = ⊥

-- ---- destruction

-- messages that are damaged are destroyed too: only where they are destroyed at all
pub record IsDamage (found : Found) (is_damaged : Bool) : Type 0 where
  pub typed : is_damaged ≡ is_given found (codes "damaged")
  pub needs : (is_damaged && not (is_given found (codes "yes"))) ≡ false

-- WHAT IS TO BE DESTROYED: the day by which it is due, and its numbers; it is destroyed where `--yes` is given, and else only listed
pub record IsDisposal (found : Found) (typed : TypedDisposal) : Type 0 where
  pub day : IsDay (value_in found (codes "day")) typed.alone.day
  pub destroys : typed.alone.destroys ≡ is_given found (codes "yes")
  pub damaged : IsDamage found typed.alone.is_damaged
  pub numbers : AreTyped (values_in found (codes "chosen")) (record { alone = typed.alone.numbers; of_volumes = typed.of_volumes })

-- no number is typed, with a volume or without
abbrev pub is_of_all : TypedDisposal → Bool
is_of_all typed = (length typed.alone.numbers.items == 0) && (length typed.of_volumes.items == 0)

-- the file of what was approved, beside which there is no number
pub record IsApproved (found : Found) (asked : DisposalAsked) : Type 0 where
  pub approved : text_of asked.approved ≡ value_in found (codes "approved")
  pub alone : IfSome asked.approved (λ file. is_of_all asked.typed ≡ true)

pub record Disposes (found : Found) (asked : DisposalAsked) : Type 0 where
  pub typed : IsDisposal found asked.typed
  pub approved : IsApproved found asked

-- RECORDS ARE DESTROYED, or listed as what may be
abbrev pub IsDispose : Found → Command → Type 0
IsDispose found (command.Dispose asked) = Disposes found asked
IsDispose found other = ⊥
