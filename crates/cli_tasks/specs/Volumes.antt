-- What a command line makes of an archive of volumes, where it ends well.
use Rattle.std.specs.Prelude.{◌≡◌, ◌⊎◌, ℕ, true, false, List, Option, Some, None, IfSome, Ok}
use Rattle.sqlite.specs.Store.{Ghosts}
use Rattle.choice_words.specs.Typed.{first_above, first_alone}
use Rattle.choice_words.specs.Readings.{reads_as_any_numbers}
use Rattle.choice_words.specs.declared.choice.Choice.{Choice}
use Rattle.choice_words.specs.declared.numbers.TypedNumbers.{TypedNumbers}
use Rattle.choice_words.specs.declared.typed.TypedChoice.{TypedChoice}
use Rattle.cli_choice.specs.declared.holds.Change.{Change}
use Rattle.cli_choice.specs.declared.holds.Change.TheVariants as hold
use Rattle.cli_choice.specs.declared.questions.Questions.{Questions}
use Rattle.cli_console.specs.Finds.{HasSingles, found_in}
use Rattle.command_lines.specs.declared.archives.Command.{Command}
use Rattle.command_lines.specs.declared.archives.Command.TheVariants as command
use Rattle.command_lines.specs.declared.archives.ChosenTask.{ChosenTask}
use Rattle.command_lines.specs.declared.archives.ChosenTask.TheVariants as task
use Rattle.command_lines.specs.declared.archives.histories.Attribution.{Attribution}
use Rattle.command_lines.specs.declared.archives.histories.HistoryTask.{HistoryTask}
use Rattle.command_lines.specs.declared.archives.histories.HistoryTask.TheVariants as history
use Rattle.cli_history.specs.declared.opening.Purpose.TheVariants.{Ending}
use Rattle.record_choice.specs.Entries.{RecordEntry}
use Rattle.record_ledger.specs.Ledgers.{keeper_of}
use Rattle.record_store.specs.declared.store.Store.{Store}
use Rattle.cli_changes.specs.declared.holds.HoldTally.{HoldTally}
use Rattle.cli_changes.specs.Holdings.{changed_numbers, changed_on, held_by, is_any_of, meant_numbers, none_tried}
use Rattle.cli_changes.specs.Series.{IsSoOf}
use Rattle.cli_tasks.specs.Changes.{ChangesThese, HoldsFound, ShowsHold}
use Rattle.cli_tasks.specs.Commands.{AreAsked, ChangesAsTold, Does, well}
use Rattle.cli_tasks.specs.Copies.{CopiesOver}
use Rattle.cli_tasks.specs.Numbers.{IsChoiceTyped}
use Rattle.cli_tasks.specs.Disposals.{DisposesOver}
use Rattle.cli_tasks.specs.Purposes.{for_hold}
use Rattle.cli_tasks.specs.Readings.{ExportsOver, ListsToOutput, ReportsOver}
use Rattle.cli_tasks.specs.Refiles.{RefilesOver}
use Rattle.cli_tasks.specs.Releases.{ReleasesOver}
use Rattle.cli_tasks.specs.Histories.{AcceptsOver, BeginsOver, GivesTitlesOver, NotesReasonsOver}
use Rattle.cli_tasks.specs.Settings.{ReplacesPlanOver}
use Rattle.cli_tasks.specs.Twins.{ListsTwinsToOutput}
use Rattle.cli_tasks.specs.Works.{EachVolume, InVolume, OverVolumes, SomeVolume}

-- each number that is typed by itself is found, and the archive refuses none of these
pub record IsAccepted (change : Change) (name : List ℕ) (typed : List TypedNumbers) (found : List RecordEntry) : Type 0 where
  pub each_found : HasSingles typed found
  pub accepted : meant_numbers change name typed found ≡ changed_numbers change name found

-- a live record of a volume is seen with a hold
abbrev pub ShowsIn : {S : Type 0} (g : Ghosts S) (IsAt : (path : List ℕ) → Store S → Type 0) (folder name : List ℕ) (volume : ℕ) → Type 0
ShowsIn g IsAt folder name v = InVolume IsAt folder v (λ before after. ShowsHold g name before after true)

module _ {S : Type 0} (g : Ghosts S) (IsAt : (path : List ℕ) → Store S → Type 0) (folder : List ℕ) (told : Attribution) where
  -- ---- holds

  -- the hold of a name is placed, or ended, on the records of a choice in a volume, and this tells what that came to
  abbrev pub HoldsIn : Change → (name : List ℕ) → Choice → Questions → HoldTally → (volume : ℕ) → Type 0
  HoldsIn change name choice questions tally v = InVolume IsAt folder v (λ before after.
      ChangesAsTold g told before after (for_hold change)
      (λ old new seals. HoldsFound g old new (Ok tally) change name choice questions))

  -- the same by the choice for a volume, if there is one; else nothing is tried in it
  abbrev pub HoldsBy : Change → (name : List ℕ) → Questions → HoldTally → (volume : ℕ) → Option Choice → Type 0
  HoldsBy change name questions tally v None = tally ≡ none_tried
  HoldsBy change name questions tally v (Some choice) = HoldsIn change name choice questions tally v

  -- the same in a volume, of what is typed of all
  abbrev pub HoldsTyped : Change → (name : List ℕ) → TypedChoice → Questions → HoldTally → (volume : ℕ) → Type 0
  HoldsTyped change name typed questions tally v =
      (o : Option Choice) × IsChoiceTyped typed v o × HoldsBy change name questions tally v o

  -- THE SAME IN EACH OF SOME VOLUMES, of which this is told together: it was refused where it was refused in one, and it was done only where
  -- it was done in one
  pub record HoldsInEach (change : Change) (name : List ℕ) (typed : TypedChoice) (questions : Questions) (last : ℕ) (tally : HoldTally)
      : Type 0 where
    pub each : EachVolume last (λ v. (t : HoldTally) × (tally.changed.is_refused ≡ false → t.changed.is_refused ≡ false)
        × HoldsTyped change name typed questions t v)
    pub any : tally.changed.is_any ≡ true
        → SomeVolume last (λ v. (t : HoldTally) × (t.changed.is_any ≡ true) × HoldsTyped change name typed questions t v)

  -- THE HOLD OF A NAME IS PLACED, OR ENDED, on each record of a choice in a volume, by an author whom the command line tells, in a ledger that
  -- is opened for that
  abbrev pub HoldsVolume : Change → (name : List ℕ) → Choice → Questions → (volume : ℕ) → Type 0
  HoldsVolume change name choice questions v = InVolume IsAt folder v (λ before after.
      ChangesAsTold g told before after (for_hold change)
      (λ old new seals. ChangesThese g old new well (changed_on change name)
      (λ a. changed_numbers change name (found_in choice questions a))
      (λ a. IsAccepted change name choice.numbers.items (found_in choice questions a))))

  -- the same by the choice for a volume of what is typed of all, if there is one
  abbrev pub HoldsTypedVolume : Change → (name : List ℕ) → TypedChoice → Questions → (volume : ℕ) → Type 0
  HoldsTypedVolume change name typed questions v =
      (o : Option Choice) × IsChoiceTyped typed v o × IfSome o (λ (c : Choice). HoldsVolume change name c questions v)

  -- the hold ends on a live record of a volume at least
  abbrev pub EndsOnOne : (name : List ℕ) → (volume : ℕ) → Type 0
  EndsOnOne name v = InVolume IsAt folder v (λ before after. ChangesAsTold g told before after Ending
      (λ old new seals. IsSoOf (keeper_of g) old new (λ a. is_any_of (held_by name a) ≡ true)))

  -- where a hold ends, a live record of a volume has it: it ends on one, or one is seen with it
  abbrev pub IsHeldIn : Change → (name : List ℕ) → (last : ℕ) → Type 0
  IsHeldIn hold.Place name last = Unit {0}
  IsHeldIn hold.End name last = SomeVolume last (λ v. EndsOnOne name v ⊎ ShowsIn g IsAt folder name v)

  -- THE HOLD OF A NAME IS PLACED, OR ENDED, on the records of a choice in each volume, by what is asked of their messages. Each number is
  -- typed with its volume, of which there is none after the last. A name that reads as numbers is given to no record.
  pub record HoldsOver (change : Change) (name : List ℕ) (typed : TypedChoice) (last : ℕ) : Type 0 where
    pub named : change ≡ hold.Place → reads_as_any_numbers name ≡ false
    pub none : first_alone typed ≡ None
    pub within : first_above last typed ≡ None
    pub questions : Questions
    pub asked : AreAsked typed.alone questions
    pub each : EachVolume last (HoldsTypedVolume change name typed questions)
    pub held : IsHeldIn change name last

  -- ---- command lines

  -- what is done with the records of a choice in each of so many volumes
  abbrev pub DoesWithEach : TypedChoice → (last : ℕ) → ChosenTask → Type 0
  DoesWithEach typed last (task.Hold name) = HoldsOver hold.Place name.now typed last
  DoesWithEach typed last (task.Release name) = HoldsOver hold.End name.now typed last
  DoesWithEach typed last (task.Refile refiling) = RefilesOver g IsAt folder told refiling.to.now typed last
  DoesWithEach typed last (task.List listing) = ListsToOutput g IsAt folder typed listing last
  DoesWithEach typed last (task.Export target) = ExportsOver g IsAt folder typed target last
  DoesWithEach typed last (task.Report day) = ReportsOver g IsAt folder typed day last

  -- what is done with the history of each volume
  abbrev pub DoesWithHistories : HistoryTask → Type 0
  DoesWithHistories history.Begin = OverVolumes (BeginsOver g IsAt folder)
  DoesWithHistories (history.Reasons reasons) = OverVolumes (NotesReasonsOver g IsAt folder)
  DoesWithHistories history.AcceptFound = OverVolumes (AcceptsOver g IsAt folder told)
  DoesWithHistories (history.Print typed) = Unit {0}

  -- WHAT A COMMAND LINE MAKES of the volumes in a folder, where it changes records, holds, the plan, titles or histories, copies the volumes,
  -- or reads the records of a choice, or those that were captured twice. Nothing is said here of the others.
  abbrev pub DoesOver : Command → Type 0
  DoesOver (command.Chosen typed chosen) = OverVolumes (λ last. DoesWithEach typed last chosen)
  DoesOver (command.ReleaseAll name is_agreed) = OverVolumes (ReleasesOver g IsAt folder told name.now)
  DoesOver (command.ReplacePlan path is_agreed) = OverVolumes (ReplacesPlanOver g IsAt folder told)
  DoesOver (command.SetTitles titles) = OverVolumes (GivesTitlesOver g IsAt folder)
  DoesOver (command.History task) = DoesWithHistories task
  DoesOver (command.Twice listing) = OverVolumes (ListsTwinsToOutput g IsAt folder listing)
  DoesOver (command.Dispose asked) = OverVolumes (DisposesOver g IsAt folder told asked)
  DoesOver (command.Copy new is_damaged) = OverVolumes (CopiesOver g IsAt folder new.now)
  DoesOver c = Unit {0}

  -- WHAT IT MAKES OF WHAT IS AT ITS PATH: of an archive, or of the volumes of one
  abbrev pub DoesThere : Command → Type 0
  DoesThere c = Does g IsAt folder told c ⊎ DoesOver c
