-- What an intake asks, and what it is answered: of a Maildir, of the archive, and of those who are told what stays.
use Rattle.std.specs.Prelude.{ℕ, Bool, true, false, List, ◌++◌, codes, Result, Ok, Err, Vec, string_bytes}
use Rattle.std.specs.declared.alloc.Global.{Global}
use Rattle.mail_intake.specs.declared.mailroom.Refusal.{Refusal}
use Rattle.mail_intake.specs.declared.mailroom.Refusal.TheVariants.{Stays, Ends}
use Rattle.mail_intake.specs.declared.mailroom.Taken.{Taken}
use Rattle.mail_intake.specs.declared.reason.Reason.{Reason}
use Rattle.mail_intake.specs.declared.reason.Reason.TheVariants as reason

-- why a message stays, without where the words are in memory
pub data Cause : Type 0 where
  no_memory : Cause
  unfit : (words : List ℕ) → Cause
  given_up : (words : List ℕ) → Cause

abbrev pub cause_of : Reason → Cause
cause_of reason.NoMemory = no_memory
cause_of (reason.Unfit words) = unfit (string_bytes words)
cause_of (reason.GivenUp words) = given_up (string_bytes words)

-- what is told of it
abbrev pub words_of : Cause → List ℕ
words_of no_memory = codes "out of memory"
words_of (unfit words) = words
words_of (given_up words) = words

-- what the archive answers to a message: it is captured or discarded, stays for a reason, or nothing more can be captured
pub data Answer : Type 0 where
  taken : Taken → Answer
  refused : Cause → Answer
  ended : Answer

abbrev pub answer_of : {F : Type 0} → Result Taken (Refusal F) → Answer
answer_of (Ok t) = taken t
answer_of (Err (Stays why)) = refused (cause_of why)
answer_of (Err (Ends fault)) = ended

-- what a look at a message finds: its octets, or why it stays
abbrev pub look_of : Result (Vec ℕ Global) Reason → Result (List ℕ) Cause
look_of (Ok octets) = Ok octets.items
look_of (Err why) = Err (cause_of why)

-- whether what was asked was done
abbrev pub is_done : {F : Type 0} → Result (Unit {0}) F → Bool
is_done (Ok done) = true
is_done (Err fault) = false

-- a call, with its answer
pub data Call : Type 0 where
  -- These new messages are listed.
  list : (names : List (List ℕ)) → Call
  -- A message is read.
  read : (name : List ℕ) (found : Result (List ℕ) Cause) → Call
  -- A message with these octets is handed to the archive.
  capture : (name octets : List ℕ) (answer : Answer) → Call
  -- A message is to be moved from new to cur.
  move : (name : List ℕ) (done : Bool) → Call
  -- It is told that a message stays, and why.
  tell : (name : List ℕ) (why : Cause) → Call
  -- It is remembered that a message stays, and why.
  remember : (name : List ℕ) (why : Cause) → Call
  -- The moves are to last over a power cut.
  settle : (done : Bool) → Call

-- From one moment to another these calls were made, and no others. `made` says which have been made at a moment.
abbrev pub Makes : {M : Type 0} (made : M → List Call → Type 0) (before after : M) (calls : List Call) → Type 0
Makes made before after calls = (done : List Call) → made before done → made after (done ++ calls)
