-- What is read of the records of an archive of volumes.
use Rattle.std.specs.Prelude.{◌≡◌, true, Bool, List, [], ◌∷◌}
use Rattle.sqlite.specs.State.{HasCleanDisk}
use Rattle.sqlite.specs.Store.{Ghosts}
use Rattle.sqlite.specs.Held.{Held, state}
use Rattle.choice_words.specs.declared.choice.Choice.{Choice}
use Rattle.record_archive.specs.Archive.{Archive}
use Rattle.record_choice.specs.declared.entry.RecordEntry.{RecordEntry}
use Rattle.record_store.specs.Stores.{StandsFor}
use Rattle.record_store.specs.declared.store.Store.{Store}
use Rattle.cli_choice.specs.declared.questions.Questions.{Questions}
use Rattle.cli_console.specs.Finds.{HasSingles, TakesThese, found_in}

-- THE RECORDS OF A CHOICE that have all that is asked WERE TAKEN, each once, in the order of their numbers, and nothing else; each number that
-- is typed by itself is found
pub record TakesFound {K : Type 0} (takes : K → Archive → List RecordEntry → K → Type 0) (choice : Choice)
    (questions : Questions) (a : Archive) (old new : K) : Type 0 where
  pub took : TakesThese takes old a (found_in choice questions a) new
  pub each_found : HasSingles choice.numbers.items (found_in choice questions a)

-- THE SAME OF A STORE, of which this is left
abbrev pub ReadsFound : {S K : Type 0} → Ghosts S → (takes : K → Archive → List RecordEntry → K → Type 0) → Choice → Questions
    → (before : Store S) → (after : Held S) → (old new : K) → Type 0
ReadsFound g takes choice questions before after old new =
    HasCleanDisk (state g after) → (a : Archive) → StandsFor g before a → TakesFound takes choice questions a old new

-- whether there was one before these, or is one of these
abbrev pub is_any_more : Bool → List RecordEntry → Bool
is_any_more was [] = was
is_any_more was (e ∷ es) = true
