-- What becomes of each message of an intake, and by which calls.
use Rattle.std.specs.Prelude.{◌≡◌, ℕ, Bool, true, false, List, [], ◌∷◌, ◌++◌, map, Ok, Err, if◌then◌else◌}
use Rattle.std.specs.List.{flat_map, count_by}
use Rattle.mail_intake.specs.declared.intake.End.{End}
use Rattle.mail_intake.specs.declared.intake.End.TheVariants as code
use Rattle.mail_intake.specs.declared.mailroom.Taken.{Taken}
use Rattle.mail_intake.specs.declared.tally.Outcome.{Outcome}
use Rattle.mail_intake.specs.declared.tally.Outcome.TheVariants.{Filed, Unfit, GivenUp}
use Rattle.mail_intake.specs.declared.tally.Tally.{Tally}
use Rattle.mail_intake.specs.Calls.{Call, Cause, no_memory, unfit, given_up, list, read, capture, move, tell, remember, settle, taken, refused, ended, words_of}
use Rattle.mail_intake.specs.Telling.{Memory, is_to_be_told}

-- what becomes of a message after which the intake goes on
pub data Fate : Type 0 where
  -- It was captured or discarded, and then moved.
  filed : (name octets : List ℕ) (how : Taken) → Fate
  -- It could not be read.
  unread : (name : List ℕ) (why : Cause) → Fate
  -- It was read, and the archive did not take it.
  turned_away : (name octets : List ℕ) (why : Cause) → Fate

-- where an intake ends
pub data Ending : Type 0 where
  -- after the last message
  after_all : Ending
  -- at this message, with which the archive can capture nothing more
  at_capture : (name octets : List ℕ) → Ending
  -- at this message, which was captured or discarded, and could not be moved
  at_move : (name octets : List ℕ) (how : Taken) → Ending

abbrev pub name_of : Fate → List ℕ
name_of (filed name octets how) = name
name_of (unread name why) = name
name_of (turned_away name octets why) = name

-- what is counted of a message: that it is filed, or that it stays, for a reason of its own or since it is given up
abbrev pub outcome_for : Cause → Outcome
outcome_for no_memory = GivenUp
outcome_for (unfit words) = Unfit
outcome_for (given_up words) = GivenUp

abbrev pub outcome_of : Fate → Outcome
outcome_of (filed name octets how) = Filed
outcome_of (unread name why) = outcome_for why
outcome_of (turned_away name octets why) = outcome_for why

abbrev pub is_outcome : Outcome → Outcome → Bool
is_outcome Filed Filed = true
is_outcome Unfit Unfit = true
is_outcome GivenUp GivenUp = true
is_outcome _ _ = false

-- how many of these fates are counted so
abbrev pub count_of : Outcome → List Fate → ℕ
count_of o fates = count_by (λ x. is_outcome o (outcome_of x)) fates

-- EACH MESSAGE OF THE LISTING HAS ONE FATE, in the order of the listing, up to where the intake ends
abbrev pub AreThoseOf : (names : List (List ℕ)) → List Fate → Ending → Type 0
AreThoseOf names fates after_all = map name_of fates ≡ names
AreThoseOf names fates (at_capture name octets) = (rest : List (List ℕ)) × (map name_of fates ++ name ∷ rest ≡ names)
AreThoseOf names fates (at_move name octets how) = (rest : List (List ℕ)) × (map name_of fates ++ name ∷ rest ≡ names)

-- what is answered at an end
abbrev pub EndsAs : {F : Type 0} → Ending → (is_settled : Bool) → End F → Type 0
EndsAs after_all true code.Done = Unit {0}
EndsAs after_all false (code.NotSettled fault) = Unit {0}
EndsAs (at_capture name octets) is_settled (code.NotCaptured fault) = Unit {0}
EndsAs (at_move name octets how) is_settled (code.NotMoved fault) = Unit {0}
EndsAs _ _ _ = ⊥

-- the counts are those of the fates
pub record IsTally (fates : List Fate) (tally : Tally) : Type 0 where
  pub taken : tally.taken ≡ count_of Filed fates
  pub unfit : tally.unfit ≡ count_of Unfit fates
  pub given_up : tally.given_up ≡ count_of GivenUp fates

module _ (memory : Memory) (day : ℕ) where
  -- a message that stays is told with its reason, unless that was told on this day, and it is remembered
  abbrev pub stays : (name : List ℕ) → Cause → List Call
  stays name why = (if is_to_be_told name (words_of why) day memory then tell name why ∷ [] else []) ++ remember name why ∷ []

  -- the calls for a message
  abbrev pub course : Fate → List Call
  course (filed name octets how) = read name (Ok octets) ∷ capture name octets (taken how) ∷ move name true ∷ []
  course (unread name why) = read name (Err why) ∷ stays name why
  course (turned_away name octets why) = read name (Ok octets) ∷ capture name octets (refused why) ∷ stays name why

  -- the calls for the message at which an intake ends
  abbrev pub last_course : Ending → List Call
  last_course after_all = []
  last_course (at_capture name octets) = read name (Ok octets) ∷ capture name octets ended ∷ []
  last_course (at_move name octets how) = read name (Ok octets) ∷ capture name octets (taken how) ∷ move name false ∷ []

  -- the calls of messages, one after the other
  abbrev pub courses : List Fate → Ending → List Call
  courses fates ending = flat_map course fates ++ last_course ending

  -- the calls of a whole intake
  abbrev pub whole_course : (names : List (List ℕ)) → List Fate → Ending → (is_settled : Bool) → List Call
  whole_course names fates ending is_settled = list names ∷ (courses fates ending ++ settle is_settled ∷ [])
