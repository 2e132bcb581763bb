-- The calls of an intake, by what they do in its room.
use Rattle.std.specs.Prelude.{◌≡◌, ◌⊎◌, ◌==◌, ◌&&◌, ℕ, Bool, true, false, not, is_some, length}
use Rattle.std.specs.Prelude.{List, [], ◌∷◌, map, String, string_bytes, None, Result, Ok}
use Rattle.std.specs.declared.alloc.Global.{Global}
use Rattle.cli_console.specs.declared.failure.Failure.{Failure}
use Rattle.cli_sources.specs.declared.maildir.NewMail.{NewMail}
use Rattle.mail_intake.specs.Calls.{Call, answer_of, capture, list}
use Rattle.mail_intake.specs.Fates.{AreThoseOf, Ending, EndsAs, Fate, IsTally, whole_course}
use Rattle.mail_intake.specs.Telling.{Memory}
use Rattle.mail_intake.specs.declared.intake.Taking.{Taking}
use Rattle.mail_intake.specs.declared.mailroom.Refusal.{Refusal}
use Rattle.mail_intake.specs.declared.mailroom.Taken.{Taken}
use Rattle.record_archive.specs.Archive.{Archive}
use Rattle.record_archive.specs.Calls.{Keeper}
use Rattle.cli_changes.specs.Desks.{IsDeskOf}
use Rattle.cli_changes.specs.Intakes.{BeginsAfter, EndsRound, GoesOnAfter, IsQuiet, TakesOne, round_of}
use Rattle.cli_changes.specs.Moments.{IsMomentIn}
use Rattle.cli_changes.specs.Rounds.{IsEndAfter, left_names}
use Rattle.cli_changes.specs.Series.{KeepsAll}
use Rattle.cli_changes.specs.Spaces.{is_full}
use Rattle.cli_changes.specs.declared.intake.Intake.{Intake}
use Rattle.cli_changes.specs.declared.intake_room.Room.{Room}
use Rattle.cli_changes.specs.declared.rounds.Round.{Round}
use Rattle.cli_changes.specs.declared.rounds.Round.TheVariants.{Done}
use Rattle.cli_changes.specs.declared.rounds.Rounds.{Rounds}
use Rattle.cli_changes.specs.declared.space.Place.{Place}

-- the names of the messages that a room is to take
abbrev pub names_in : {A : Type 0} → Room A → List (List ℕ)
names_in room = map string_bytes room.mail.names.items

module _ {A : Type 0} (keeper : Keeper A Archive) where
  -- a message is handed over while there is space, and else the round ends at it
  pub record Captures (before : Room A) (name octets : List ℕ) (answer : Result Taken (Refusal Failure)) (after : Room A) : Type 0 where
    pub full : is_full before.place.space ≡ true → EndsRound before name answer after
    pub taken : is_full before.place.space ≡ false → TakesOne keeper before octets answer after

  -- WHAT A CALL DOES: the messages are listed that were found; one is captured as it is answered; and at any other call nothing is done at the desk
  abbrev pub Does : Call → (before after : Room A) → Type 0
  Does (list names) before after = (names ≡ names_in before) × IsQuiet before after
  Does (capture name octets answer) before after =
      (answered : Result Taken (Refusal Failure)) × (answer ≡ answer_of answered) × Captures before name octets answered after
  Does _ before after = IsQuiet before after

  -- THE ROOM CAME HERE BY THESE CALLS from the first one
  abbrev pub ComesBy : (first : Room A) → List Call → (room : Room A) → Type 0
  ComesBy first [] room = room ≡ first
  ComesBy first (c ∷ calls) room = (mid : Room A) × Does c first mid × ComesBy mid calls room

  -- THE SAME FROM A ROOM THAT WAS TO TAKE THE MESSAGES OF THESE NAMES
  abbrev pub CameBy : (names : List (List ℕ)) → List Call → (room : Room A) → Type 0
  CameBy names calls room = (first : Room A) × (names_in first ≡ names) × ComesBy first calls room

  -- These calls were made; before them stand the names that were found, as a listing.
  abbrev pub Made : (room : Room A) → List Call → Type 0
  Made room [] = ⊥
  Made room (list names ∷ calls) = CameBy names calls room
  Made room (c ∷ calls) = ⊥

  -- THE MESSAGES OF A ROUND WERE TAKEN: each of those that were found has one fate, in their order, up to where the round ends. It is captured
  -- or discarded, and then moved; or it stays, is told with its reason unless that was told on the same day, and is remembered. The round ends
  -- behind the last one, at one with which nothing more can be captured, as where the volume is full, or at one that cannot be moved. The calls
  -- for this were made and no others, and the counts are those of the fates.
  pub record TakesAll (before after : Room A) : Type 0 where
    pub memory : Memory
    pub day : ℕ
    pub fates : List Fate
    pub ending : Ending
    pub is_settled : Bool
    pub taking : Taking Failure
    pub mid : Room A
    pub order : AreThoseOf (names_in before) fates ending
    pub calls : CameBy (names_in before) (whole_course memory day (names_in before) fates ending is_settled) mid
    pub ended : EndsAs ending is_settled taking.end
    pub counts : IsTally fates taking.tally
    -- where no message is left for a next round, the intake ends well by what became of all of them
    pub closed : after.next ≡ None → IsEndAfter after.before taking (Ok tt)
    pub desk : after.desk ≡ mid.desk
    pub next : after.next ≡ mid.next

-- THE MESSAGES THAT ARE FOUND FOR A ROUND are those that the folder has, and in a next round those from the one on at which the last one ended
abbrev pub IsFound : Rounds → NewMail → Type 0
IsFound rounds mail = (listed : List (String Global)) × (mail.names.items ≡ left_names rounds.next listed)

-- no message is new, in an intake that has not begun
abbrev pub is_none : Rounds → NewMail → Bool
is_none rounds mail = not (is_some rounds.begun) && ((length mail.names.items == 0) && (mail.nameless == 0))

module _ {A : Type 0} (keeper : Keeper A Archive) (job : Intake) (rounds : Rounds) (place : Place) where
  -- A ROUND TAKES THESE MESSAGES at a desk over an archive by the rules of the intake, and this is the archive afterwards
  pub record TakesMail (mail : NewMail) (store back : A) (round : Round Intake Rounds) : Type 0 where
    pub before : Room A
    pub after : Room A
    pub begun : ℕ
    pub job_is : before.job ≡ job
    pub mail_is : before.mail ≡ mail
    pub place_is : before.place ≡ place
    pub begins : BeginsAfter rounds before
    pub desk : IsDeskOf keeper job.filing store before.desk
    pub takes : TakesAll keeper before after
    pub round_is : round ≡ round_of after begun after.next
    pub given_back : back ≡ after.desk.store

  -- THE NEW MESSAGES ARE TAKEN, if there are any
  abbrev pub TakesNew : (store back : A) → Round Intake Rounds → Type 0
  TakesNew store back round = (mail : NewMail) × IsFound rounds mail
      × (((is_none rounds mail ≡ true) × (round ≡ Done) × (back ≡ store)) ⊎ TakesMail mail store back round)

-- A ROUND IS MADE only at a moment that is judged by the days of the archive, of which no more was read before. It takes the new messages, and is
-- the last one, or a next one goes on.
pub record TakesRound {A : Type 0} (keeper : Keeper A Archive) (job : Intake) (rounds : Rounds) (place : Place) (store back : A)
    (round : Round Intake Rounds) : Type 0 where
  pub looked : A
  pub reads : KeepsAll keeper store looked
  pub moment : ℕ
  pub judged : IsMomentIn keeper job.timing store looked moment
  pub takes : TakesNew keeper job rounds place looked back round
  pub goes_on : GoesOnAfter rounds round
