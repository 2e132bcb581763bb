-- What a search has yet to find, and what a reader takes of it.
use Rattle.std.specs.Prelude.{◌≡◌, ◌<◌, ◌≤◌, ◌^◌, ℕ, nat_le, true, not, ◌&&◌, List, [], ◌++◌, length, map, filter}
use Rattle.std.specs.Prelude.{Option, Some, None, Result, Ok, Err}
use Rattle.std.specs.List.{list_any}
use Rattle.choice_words.specs.declared.choice.Choice as words
use Rattle.choice_words.specs.declared.numbers.TypedNumbers.{TypedNumbers}
use Rattle.record_archive.specs.Archive.{Record, Archive}
use Rattle.record_choice.specs.Choices.{Choice, where_asked, is_in, meets_asked, chosen}
use Rattle.record_choice.specs.Disposals.{is_one_of}
use Rattle.record_choice.specs.Entries.{RecordEntry, entry_of, entry_view}
use Rattle.record_choice.specs.Views.{choice_view}
use Rattle.record_choice.specs.Walks.{chosen_after}
use Rattle.record_choice.specs.declared.choice.Choice as own_choice
use Rattle.record_choice.specs.declared.entry.RecordEntry as own
use Rattle.cli_choice.specs.declared.questions.Questions.{Questions}
use Rattle.cli_choice.specs.Questions.{question_of}
use Rattle.cli_choice.specs.Typed.{choice_typed, is_one, singles}
use Rattle.cli_console.specs.declared.failure.Failure.{Failure}
use Rattle.cli_console.specs.declared.failure.Failure.TheVariants.{Closed, NoMemory, Told, Reported}
use Rattle.cli_console.specs.declared.failure.Status.TheVariants.{BadData, TryAgain}
use Rattle.cli_console.specs.declared.search.Search.{Search}
use Rattle.cli_console.specs.declared.walk.Walk.{Walk}

-- ---- what is found

-- THE RECORDS THAT ARE FOUND: each of the archive that meets the choice that is typed and has all that is asked, from the
-- number on that is typed, in the order of their numbers
abbrev pub found_in : words.Choice → Questions → Archive → List RecordEntry
found_in typed questions a =
    map (entry_of a) (filter (λ (r : Record). nat_le typed.from r.number && meets_asked (question_of questions) (choice_typed typed) a r) a.records)

-- THE RECORDS OF A CHOICE, whatever their messages say, in the order of their numbers
abbrev pub entries_of : Choice → Archive → List RecordEntry
entries_of c a = map (entry_of a) (chosen None c a)

abbrev pub chosen_in : own_choice.Choice → Archive → List RecordEntry
chosen_in c a = entries_of (choice_view c) a

-- ---- what is yet to be found

-- what a search that stands somewhere finds from there on
abbrev pub found_ahead : Search → Archive → List RecordEntry
found_ahead s a = map (entry_of a) (chosen_after (question_of s.questions.now) (choice_view s.choice) a s.from)

-- what a walk that stands somewhere goes over from there on
abbrev pub chosen_ahead : Walk → Archive → List RecordEntry
chosen_ahead w a = map (entry_of a) (chosen_after None (choice_view w.choice.now) a w.from)

-- a choice asks for this number, or for no number
abbrev pub IsAsked : Choice → ℕ → Type 0
IsAsked c n = where_asked (list_any (is_in n)) c.numbers ≡ true

-- no number is asked for that is above the last one of the search
abbrev pub IsBounded : Search → Type 0
IsBounded s = (n : ℕ) → 1 ≤ n → n < 2 ^ 32 → IsAsked (choice_view s.choice) n → n ≤ s.last

-- it is for the same records, wherever it stands
pub record IsSameSearch (old new : Search) : Type 0 where
  pub typed : new.typed.now ≡ old.typed.now
  pub questions : new.questions.now ≡ old.questions.now
  pub choice : new.choice ≡ old.choice
  pub last : new.last ≡ old.last

-- a first page has a record at least, and what is ahead comes after it; where there is none, nothing was ahead
abbrev pub IsFirst : (all : List RecordEntry) → (page : Option (List RecordEntry)) → (ahead : List RecordEntry) → Type 0
IsFirst all None ahead = all ≡ []
IsFirst all (Some page) ahead = (1 ≤ length page) × (page ++ ahead ≡ all)

-- ---- numbers that are typed by themselves

abbrev pub numbers_of : List RecordEntry → List ℕ
numbers_of es = map (λ (e : RecordEntry). e.number) es

-- the numbers of these records that are typed by themselves
abbrev pub singles_among : List TypedNumbers → List RecordEntry → List ℕ
singles_among ts es = filter (λ n. list_any (is_one n) ts) (numbers_of es)

-- those that are typed by themselves and are none of these
abbrev pub missing_among : List TypedNumbers → List ℕ → List ℕ
missing_among ts ns = filter (λ n. not (is_one_of ns n)) (singles ts)

-- EACH NUMBER THAT IS TYPED BY ITSELF is that of one of these records
abbrev pub HasSingles : List TypedNumbers → List RecordEntry → Type 0
HasSingles ts es = missing_among ts (numbers_of es) ≡ []

-- what a search has noted, and will note to its end, of the numbers that are typed by themselves
abbrev pub noted_at_end : Search → Archive → List ℕ
noted_at_end s a = s.found.items ++ singles_among s.typed.now.numbers.items (found_ahead s a)

-- a search has come to its end
pub record IsAtEnd (old : Search) (a : Archive) (new : Search) : Type 0 where
  pub typed : new.typed.now ≡ old.typed.now
  pub noted : new.found.items ≡ noted_at_end old a

-- the numbers that are typed by themselves and that a search has not found
abbrev pub missing_of : Search → List ℕ
missing_of s = missing_among s.typed.now.numbers.items s.found.items

-- HOW A SEARCH ENDS: well where no number is missing, and with a report as bad data where one is; another failure is that of
-- the store, or no memory
abbrev pub IsEndOf : (missing : List ℕ) → Result (Unit {0}) Failure → Type 0
IsEndOf missing (Ok done) = missing ≡ []
IsEndOf missing (Err (Reported status)) = (status ≡ BadData) × (missing ≡ [] → ⊥)
IsEndOf missing (Err (Told status text)) = status ≡ TryAgain
IsEndOf missing (Err NoMemory) = Unit {0}
IsEndOf missing (Err Closed) = ⊥

-- ---- readers

-- THE READER TOOK THESE: entries that show them, each once, in this order, and nothing else
abbrev pub TakesThese : {K : Type 0} → (K → Archive → List own.RecordEntry → K → Type 0) → K → Archive → List RecordEntry → K → Type 0
TakesThese takes old a found new = (es : List own.RecordEntry) × (map entry_view es ≡ found) × takes old a es new

-- the same while some of what was to be found is still ahead
abbrev pub TakesSome : {K : Type 0} → (K → Archive → List own.RecordEntry → K → Type 0) → K → Archive → (all ahead : List RecordEntry) → K → Type 0
TakesSome takes old a all ahead new = (es : List own.RecordEntry) × (map entry_view es ++ ahead ≡ all) × takes old a es new
