-- What an import does, and what it is answered: of files with old mail, of the archive, and of those who are told.
use Rattle.std.specs.Prelude.{◌≡◌, ℕ, List, [], ◌∷◌, Option, Some, None, Result, Ok, Err, Vec}
use Rattle.std.specs.declared.alloc.Global.{Global}
use Rattle.mail_boxes.specs.Boxes.{message_view}
use Rattle.mail_boxes.specs.declared.splitter.BoxMessage.{BoxMessage}
use Rattle.mail_intake.specs.Calls.{Cause, cause_of}
use Rattle.mail_intake.specs.declared.mailroom.Refusal.{Refusal}
use Rattle.mail_intake.specs.declared.mailroom.Refusal.TheVariants.{Stays, Ends}
use Rattle.mail_intake.specs.declared.reason.Reason.{Reason}
use Rattle.mail_import.specs.declared.known.FirstRecord.{FirstRecord}
use Rattle.mail_import.specs.Fates.{Why}

-- what the archive answers to a message: it is captured, with its first record unless its rules discarded it; it stays for a
-- reason; or nothing more can be captured
pub data Answer : Type 0 where
  taken : (first : Option FirstRecord) → Answer
  refused : Cause → Answer
  ended : Answer

abbrev pub answer_of : {F : Type 0} → Result (Option FirstRecord) (Refusal F) → Answer
answer_of (Ok first) = taken first
answer_of (Err (Stays why)) = refused (cause_of why)
answer_of (Err (Ends fault)) = ended

-- what a look at a file finds: its octets, or why it stays
abbrev pub look_of : Result (Vec ℕ Global) Reason → Result (List ℕ) Cause
look_of (Ok octets) = Ok octets.items
look_of (Err why) = Err (cause_of why)

-- a call that changes something or that is told, with its answer; and each look at a file
pub data Call : Type 0 where
  -- A file is read.
  read : (path : List ℕ) (found : Result (List ℕ) Cause) → Call
  -- A message with these octets is handed to the archive, to be captured at this moment.
  capture : (name : List ℕ) (moment : ℕ) (octets : List ℕ) (answer : Answer) → Call
  -- It is told that a message stays, and why.
  tell : (name : List ℕ) (why : Why) → Call
  -- It is told that a message is captured already, and its first record.
  tell_known : (name : List ℕ) (first : FirstRecord) → Call
  -- It is told how many messages stay since their names are no UTF-8.
  tell_nameless : (count : ℕ) → Call
  -- It is told that a folder has no message.
  tell_empty : (path : List ℕ) → Call
  -- It is told which line of an mbox is the first one that looks like a separator and has no date, and how many such lines there are.
  tell_undated : (path : List ℕ) (first count : ℕ) → Call

-- of the messages that are to come this is the next, if there is one, and this holds of those after it
abbrev pub IsNext : Option BoxMessage → List (Option (List ℕ)) → (Left : List (Option (List ℕ)) → Type 0) → Type 0
IsNext None messages Left = (messages ≡ []) × Left []
IsNext (Some m) messages Left = (rest : List (Option (List ℕ))) × (messages ≡ message_view m ∷ rest) × Left rest
