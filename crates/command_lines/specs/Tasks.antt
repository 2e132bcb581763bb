-- What is asked of a history, and what is told for one.
use Rattle.std.specs.Prelude.{◌≡◌, ℕ, ◌&&◌, ◌||◌, ◌==◌, not, nat_le, Bool, true, false, List, [], ◌∷◌, length, codes, Option, Some, None, is_some, option_map, unwrap_or, IfSome, if◌then◌else◌}
use Rattle.std.specs.List.{find, flat_map}
use Rattle.std.specs.Str.{bytes_eq}
use Rattle.clap.specs.declared.parser.matches.Found.{Found}
use Rattle.session_words.specs.Words.{is_name}
use Rattle.command_lines.specs.Asked.{is_given, text_of, value_in, values_in}
use Rattle.command_lines.specs.Days.{IsDay}
use Rattle.command_lines.specs.Numbers.{AreTyped, listed}
use Rattle.command_lines.specs.declared.archives.Command.{Command}
use Rattle.command_lines.specs.declared.archives.Command.TheVariants as command
use Rattle.command_lines.specs.declared.archives.histories.Attribution.{Attribution}
use Rattle.command_lines.specs.declared.archives.histories.Change.{Change}
use Rattle.command_lines.specs.declared.archives.histories.Change.TheVariants as change
use Rattle.command_lines.specs.declared.archives.histories.DeedKind.{DeedKind}
use Rattle.command_lines.specs.declared.archives.histories.DeedKind.TheVariants as deed
use Rattle.command_lines.specs.declared.archives.histories.HistoryTask.{HistoryTask}
use Rattle.command_lines.specs.declared.archives.histories.HistoryTask.TheVariants as task
use Rattle.command_lines.specs.declared.archives.histories.Reasons.TheVariants.{Required, Optional}
use Rattle.command_lines.specs.declared.archives.histories.TypedHistory.{TypedHistory}

-- ---- who does it, and why

-- WHO MAKES A CHANGE, AND FOR WHAT REASON, as it is told: nobody and the empty reason where it is not
pub record IsTold (found : Found) (told : Attribution) : Type 0 where
  pub by : text_of told.by ≡ value_in found (codes "by")
  pub name : IfSome told.by (λ name. is_name name.now ≡ true)
  pub reason : told.reason.now ≡ unwrap_or (value_in found (codes "reason")) []
  pub short : nat_le (length told.reason.now) 500 ≡ true

-- ---- the events that are printed

-- the words for kinds of deeds
abbrev pub kinds : List (List ℕ × DeedKind)
kinds =
    (codes "captured", deed.Captured) ∷
    (codes "held", deed.Held) ∷
    (codes "released", deed.Released) ∷
    (codes "refiled", deed.Refiled) ∷
    (codes "destroyed", deed.Destroyed) ∷
    (codes "added", deed.Added) ∷
    (codes "replaced", deed.Replaced) ∷
    (codes "titled", deed.Titled) ∷
    (codes "made", deed.Made) ∷
    (codes "found", deed.Found) ∷
    (codes "accepted", deed.Accepted) ∷
    []

abbrev pub kind_of : List ℕ → Option DeedKind
kind_of word = option_map (λ k. k.1) (find (λ k. bytes_eq word k.0) kinds)

-- the kind of a word, if it is given, so that no other word is taken for one
abbrev pub IsKind : (word : Option (List ℕ)) → Option DeedKind → Type 0
IsKind word kind = option_map Some kind ≡ option_map kind_of word

-- THE EVENTS THAT ARE ASKED FOR
pub record AreEvents (found : Found) (asked : TypedHistory) : Type 0 where
  pub numbers : AreTyped (values_in found (codes "chosen")) (record { alone = asked.alone.numbers; of_volumes = asked.of_volumes })
  pub since : IsDay (value_in found (codes "since")) asked.alone.since
  pub by : text_of asked.alone.by ≡ value_in found (codes "by")
  pub kind : IsKind (value_in found (codes "deeds")) asked.alone.kind
  pub json : asked.alone.is_json ≡ is_given found (codes "json")

-- something that is printed is chosen, but for who did it
abbrev pub is_chosen : TypedHistory → Bool
is_chosen asked = not (length asked.alone.numbers.items == 0) || not (length asked.of_volumes.items == 0)
    || is_some asked.alone.since || is_some asked.alone.kind || asked.alone.is_json

-- ---- the changes of a history

-- the flags that ask for changes
abbrev pub changes : List (List ℕ × Change)
changes =
    (codes "begin", change.Begin) ∷
    (codes "require-reason", change.RequireReasons) ∷
    (codes "waive-reason", change.WaiveReasons) ∷
    (codes "accept-found", change.AcceptFound) ∷
    []

abbrev pub change_by : Found → List ℕ × Change → List Change
change_by found flag = if is_given found flag.0 then flag.1 ∷ [] else []

-- the changes whose flags are given
abbrev pub changes_in : Found → List Change
changes_in found = flat_map (change_by found) changes

-- at most one change is asked for
abbrev pub IsChange : List Change → Option Change → Type 0
IsChange changes one = changes ≡ listed one

abbrev pub needs_reason : Change → Bool
needs_reason change.WaiveReasons = true
needs_reason change.AcceptFound = true
needs_reason other = false

abbrev pub task_of : Change → HistoryTask
task_of change.Begin = task.Begin
task_of change.RequireReasons = task.Reasons Required
task_of change.WaiveReasons = task.Reasons Optional
task_of change.AcceptFound = task.AcceptFound

-- the reason that is told has something in it
abbrev pub has_reason : Found → Bool
has_reason found = not (length (unwrap_or (value_in found (codes "reason")) []) == 0)

-- a change stands alone, without events, and has its reason
pub record StandsAlone (found : Found) (events : TypedHistory) (change : Change) : Type 0 where
  pub alone : is_chosen events ≡ false
  pub reason : (needs_reason change && not (has_reason found)) ≡ false

-- the change that is asked for, beside what is typed of events; without one there is no reason either
abbrev pub IsJudged : Found → TypedHistory → Option Change → Type 0
IsJudged found events None = (changes_in found ≡ []) × (value_in found (codes "reason") ≡ None)
IsJudged found events (Some change) = (changes_in found ≡ change ∷ []) × StandsAlone found events change

-- the task of a change, or else the events that are printed
abbrev pub IsTaskOf : TypedHistory → Option Change → HistoryTask → Type 0
IsTaskOf events None asked = asked ≡ task.Print events
IsTaskOf events (Some change) asked = asked ≡ task_of change

-- WHAT IS DONE WITH A HISTORY: the one change whose flag is given, or else its events are printed
abbrev pub IsTask : Found → HistoryTask → Type 0
IsTask found asked =
    (events : TypedHistory) × (change : Option Change) × AreEvents found events × IsJudged found events change
    × IsTaskOf events change asked

-- THE HISTORY IS CHANGED OR PRINTED
abbrev pub IsHistory : Found → Command → Type 0
IsHistory found (command.History asked) = IsTask found asked
IsHistory found other = ⊥
