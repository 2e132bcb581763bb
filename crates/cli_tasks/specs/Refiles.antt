-- Another class for records of an archive of volumes.
use Rattle.std.specs.Prelude.{◌≡◌, ℕ, true, false, List, [], All, map, Option, Some, None, IfSome}
use Rattle.sqlite.specs.Store.{Ghosts}
use Rattle.choice_words.specs.Typed.{first_above, first_alone}
use Rattle.choice_words.specs.declared.choice.Choice.{Choice}
use Rattle.choice_words.specs.declared.typed.TypedChoice.{TypedChoice}
use Rattle.cli_choice.specs.declared.questions.Questions.{Questions}
use Rattle.cli_changes.specs.Moves.{no_moves}
use Rattle.cli_changes.specs.declared.refile.MoveTally.{MoveTally}
use Rattle.command_lines.specs.declared.archives.histories.Attribution.{Attribution}
use Rattle.cli_history.specs.declared.opening.Purpose.TheVariants.{Ending}
use Rattle.record_store.specs.declared.store.Store.{Store}
use Rattle.record_volumes.specs.Rows.{numbers_to}
use Rattle.cli_tasks.specs.Changes.{RefilesFound, ShowsMoves}
use Rattle.cli_tasks.specs.Commands.{AreAsked, ChangesAsTold, well}
use Rattle.cli_tasks.specs.Endings.{JudgesWhereAny, is_any_in}
use Rattle.cli_tasks.specs.Numbers.{IsChoiceTyped}
use Rattle.cli_tasks.specs.Plans.{HaveOnePlan}
use Rattle.cli_tasks.specs.Works.{InVolume}
use Rattle.cli_tasks.specs.declared.volume_changes.Listed.{Listed}
use Rattle.cli_tasks.specs.declared.volume_refilings.Moved.{Moved}

-- ---- what is found

module _ {S : Type 0} (g : Ghosts S) (IsAt : (path : List ℕ) → Store S → Type 0) (folder to : List ℕ) (typed : TypedChoice)
    (questions : Questions) where
  -- what a refiling changes was found in a volume by the choice for it, if there is one; else it changes nothing there
  abbrev pub MovesBy : (volume : ℕ) → Moved → Option Choice → Type 0
  MovesBy v moved None = (moved.numbers.items ≡ []) × (moved.tally ≡ no_moves)
  MovesBy v moved (Some choice) = InVolume IsAt folder v (λ before after. ShowsMoves g to choice questions before after moved)

  -- the same of what is typed of all volumes
  abbrev pub MovesIn : (volume : ℕ) → Moved → Type 0
  MovesIn v moved = (o : Option Choice) × IsChoiceTyped typed v o × MovesBy v moved o

  -- these were found in a volume, of which this is told together with others: it was refused where one was
  abbrev pub MovesListed : MoveTally → Listed → Type 0
  MovesListed tally l = (moved : Moved) × (moved.numbers.items ≡ l.numbers.items)
      × (tally.is_refused ≡ false → moved.tally.is_refused ≡ false) × MovesIn l.volume moved

  -- they were in each volume, in the order of these
  pub record MovesEach (last : ℕ) (tally : MoveTally) (listed : List Listed) : Type 0 where
    pub are : map (λ (l : Listed). l.volume) listed ≡ numbers_to last
    pub each : All (MovesListed tally) listed

-- ---- what is done

module _ {S : Type 0} (g : Ghosts S) (IsAt : (path : List ℕ) → Store S → Type 0) (folder : List ℕ) (told : Attribution) where
  -- the records of a choice in a volume that get the class, which are those of these numbers, get it, by an author whom the command line
  -- tells
  abbrev pub RefilesIn : (to : List ℕ) → Choice → Questions → (volume : ℕ) → (numbers : List ℕ) → Type 0
  RefilesIn to choice questions v ns = InVolume IsAt folder v (λ before after. ChangesAsTold g told before after Ending
      (λ old new seals. RefilesFound g old new well to ns choice questions))

  -- the same by the choice for a volume of what is typed of all, if there is one
  abbrev pub RefilesTyped : (to : List ℕ) → TypedChoice → Questions → (volume : ℕ) → (numbers : List ℕ) → Type 0
  RefilesTyped to typed questions v ns =
      (o : Option Choice) × IsChoiceTyped typed v o × IfSome o (λ (c : Choice). RefilesIn to c questions v ns)

  -- the same in a volume where records were listed
  abbrev pub RefilesWhereAny : (to : List ℕ) → TypedChoice → Questions → Listed → Type 0
  RefilesWhereAny to typed questions l = is_any_in l ≡ true → RefilesTyped to typed questions l.volume l.numbers.items

  -- THE RECORDS OF A CHOICE GET ANOTHER CLASS, which each volume has by the plan of all: those that were found in each volume, and none of
  -- them was refused, once the ledgers of these volumes were judged. Each number is typed with its volume, of which there is none after the
  -- last.
  pub record RefilesOver (to : List ℕ) (typed : TypedChoice) (last : ℕ) : Type 0 where
    pub none : first_alone typed ≡ None
    pub within : first_above last typed ≡ None
    pub questions : Questions
    pub asked : AreAsked typed.alone questions
    pub planned : HaveOnePlan IsAt folder last
    pub tally : MoveTally
    pub accepted : tally.is_refused ≡ false
    pub listed : List Listed
    pub shown : MovesEach g IsAt folder to typed questions last tally listed
    pub judged : All (JudgesWhereAny g IsAt folder told) listed
    pub refiled : All (RefilesWhereAny to typed questions) listed
