-- Each command of the archive, with its event, keeps the history an explanation of the archive.
use Rattle.std.specs.Prelude.{◌≡◌, ℕ, ◌++◌, ◌+◌, length, List, [], ◌∷◌, Option, Result, Ok, negsuc}
use Rattle.class_plan.specs.declared.schedules.Schedule.{Schedule}
use Rattle.class_plan.specs.Plans.{Listing}
use Rattle.record_archive.specs.Archive.{Archive, empty_archive, next_number, capture, hold, release, destroy, destroy_on, add_class, revise}
use Rattle.record_archive.specs.Refiling.{refile}
use Rattle.record_archive.specs.declared.fault.ArchiveRefusal.{ArchiveRefusal}
use Rattle.record_history.specs.Events.{Event, Deed, Filing}
use Rattle.record_history.specs.Events.{Captured, Held, Released, Destroyed, Refiled, ClassAdded, PlanReplaced, Titled}
use Rattle.record_history.specs.Events.{ReasonsRequired, ReasonsOptional, FindingsAccepted}
use Rattle.record_history.specs.Lines.{line_of, lines_from}
use Rattle.record_history.specs.Replay.{Explains, seal}

-- where events explain an archive and the command makes another of it, the events and one more of this deed explain the other
abbrev pub Tells : (Archive → Deed) → (Archive → Result Archive ArchiveRefusal) → Type 0
Tells deed command = (es : List Event) (e : Event) (a b : Archive) → Explains es a → command a ≡ Ok b → e.deed ≡ deed a →
    Explains (es ++ e ∷ []) b

-- the lines are those of events that explain the archive
abbrev pub Told : Archive → List (List ℕ) → Type 0
Told a ls = (es : List Event) × (ls ≡ lines_from 1 es) × Explains es a

-- the same of the lines
abbrev pub TellsInLines : (Archive → Deed) → (Archive → Result Archive ArchiveRefusal) → Type 0
TellsInLines deed command = (e : Event) (a b : Archive) (ls : List (List ℕ)) → Told a ls → command a ≡ Ok b → e.deed ≡ deed a →
    Told b (ls ++ line_of (length ls + 1) e ∷ [])

-- a line of this deed more, and the lines still explain the archive
abbrev pub LeavesTold : Deed → Type 0
LeavesTold deed = (e : Event) (a : Archive) (ls : List (List ℕ)) → Told a ls → e.deed ≡ deed → Told a (ls ++ line_of (length ls + 1) e ∷ [])

-- THE LAW, a field for each command
pub record CommandsAreTold : Type 0 where
  -- no events explain the archive in which nothing was captured
  pub none : Explains [] empty_archive
  pub captures : (body : List ℕ) (day : ℕ) (filing : Option Filing) (paths : List (List ℕ)) →
      Tells (λ a. Captured (next_number a) (seal body) day filing paths) (λ a. capture a body day paths)
  pub holds : (name : List ℕ) (n : ℕ) → Tells (λ a. Held name n) (λ a. hold a name n)
  pub releases : (name : List ℕ) (n : ℕ) → Tells (λ a. Released name n) (λ a. release a name n)
  pub destructions : (n day : ℕ) (schedule : Schedule) → Tells (λ a. Destroyed n day schedule) (λ a. destroy a n day)
  -- by a day before 1970 nothing is destroyed, so there is no event of it
  pub none_before_1970 : (n k : ℕ) (a b : Archive) → destroy_on a n (negsuc k) ≡ Ok b → ⊥
  pub refilings : (n : ℕ) (q : List ℕ) → Tells (λ a. Refiled n q) (λ a. refile a n q)
  pub additions : (path : List ℕ) → Tells (λ a. ClassAdded path) (λ a. add_class a path)
  pub plans : (p : Listing) → Tells (λ a. PlanReplaced p) (λ a. revise a p)
  -- a title and a legal basis of a class are told, and change nothing of the archive
  pub titles : (path title basis : List ℕ) → LeavesTold (Titled path title basis)
  -- whether reasons are required is told, and changes nothing of the archive
  pub reasons_required : LeavesTold ReasonsRequired
  pub reasons_optional : LeavesTold ReasonsOptional
  -- nor does it that findings are let stand
  pub findings_accepted : LeavesTold FindingsAccepted
  pub lines : (deed : Archive → Deed) (command : Archive → Result Archive ArchiveRefusal) → Tells deed command → TellsInLines deed command
