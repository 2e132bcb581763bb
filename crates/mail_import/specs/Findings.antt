-- What an import finds, what becomes of it, and by which calls.
use Rattle.std.specs.Prelude.{◌≡◌, ℕ, ◌+◌, ◌==◌, not, List, [], ◌∷◌, ◌++◌, codes, length, Option, Some, None, Ok, Err}
use Rattle.std.specs.Prelude.{if◌then◌else◌}
use Rattle.std.specs.Fmt.{decimal}
use Rattle.mail_intake.specs.Calls.{Cause, no_memory}
use Rattle.mail_sources.specs.declared.sources.Source.{Source}
use Rattle.mail_sources.specs.declared.sources.Source.TheVariants.{Mbox, Folder, Maildir}
use Rattle.record_history.specs.Replay.{seal}
use Rattle.mail_import.specs.declared.known.FirstRecord.{FirstRecord}
use Rattle.mail_import.specs.Calls.{Call, read, capture, tell, tell_known, tell_nameless, tell_empty, tell_undated, taken, refused}
use Rattle.mail_import.specs.Fates.{FirstRecords, Why, no_mail, undated, too_long, because, decided, with_known}
use Rattle.mail_import.specs.Sources.{Mail, count_of}
use Rattle.mail_import.specs.Tallies.{more, one_more, with_beside, with_staying}
use Rattle.mail_import.specs.declared.fate.Fate.{Fate}
use Rattle.mail_import.specs.declared.fate.Fate.TheVariants as fate
use Rattle.mail_import.specs.declared.message.Terms.{Terms}
use Rattle.mail_import.specs.declared.tally.ImportTally.{ImportTally}

-- what is found of a message
pub data Found : Type 0 where
  -- A message of an mbox, with these octets.
  boxed : (octets : List ℕ) → Found
  -- One of an mbox, with too many.
  oversized : Found
  -- A file with these octets.
  filed : (octets : List ℕ) → Found
  -- A file that could not be read.
  unread : (why : Cause) → Found

-- what becomes of a message after which the import goes on
pub data Outcome : Type 0 where
  -- It stays, and is not handed to the archive.
  stays : (why : Why) → Outcome
  -- It is passed over, since it is captured already as this record.
  known : (first : FirstRecord) → Outcome
  -- It is captured at this moment, with this first record unless its rules discarded it.
  captured : (moment : ℕ) (first : Option FirstRecord) → Outcome
  -- It is handed to the archive to be captured at this moment, which did not take it.
  turned_away : (moment : ℕ) (why : Cause) → Outcome

-- what is found, in order
pub data Finding : Type 0 where
  message : (name : List ℕ) → Found → Outcome → Finding
  -- So many messages stay since their names are no UTF-8.
  nameless : (count : ℕ) → Finding
  -- The folder at this path has no message.
  empty_folder : (path : List ℕ) → Finding
  -- What lies beside the messages of a source.
  beside : (files folders : ℕ) → Finding
  -- Lines of the mbox at this path look like separators and have no date: the first one, and how many there are.
  undated_lines : (path : List ℕ) (first count : ℕ) → Finding

-- ---- which outcome a message has

-- THE OUTCOME IS WHAT IS DECIDED of the message. But for want of memory it may stay.
abbrev pub Agrees : Fate → Outcome → Type 0
Agrees (fate.NoMail why) (stays (no_mail w)) = w ≡ why
Agrees (fate.Undated why) (stays (undated w)) = w ≡ why
Agrees (fate.Known first) (known f) = f ≡ first
Agrees (fate.Taken moment) (captured m first) = m ≡ moment
Agrees (fate.Taken moment) (turned_away m why) = m ≡ moment
Agrees f (stays (because no_memory)) = Unit {0}
Agrees f o = ⊥

module _ (terms : Terms) where
  abbrev pub IsOutcome : FirstRecords → Found → Outcome → Type 0
  IsOutcome first (boxed octets) o = Agrees (decided terms first octets) o
  IsOutcome first oversized o = o ≡ stays too_long
  IsOutcome first (filed octets) o = Agrees (decided terms first octets) o
  IsOutcome first (unread why) o = o ≡ stays (because why)

-- what is known once a message with these octets is captured with a first record
abbrev pub known_by : List ℕ → Outcome → FirstRecords → FirstRecords
known_by octets (captured moment (Some n)) first = with_known (seal octets) n first
known_by octets o first = first

-- WHAT IS KNOWN after a finding: also the message that was captured
abbrev pub known_after : Finding → FirstRecords → FirstRecords
known_after (message name (boxed octets) o) first = known_by octets o first
known_after (message name (filed octets) o) first = known_by octets o first
known_after _ first = first

unfoldable pub known_after_all : List Finding → FirstRecords → FirstRecords
known_after_all [] first = first
known_after_all (s ∷ ss) first = known_after_all ss (known_after s first)

-- ---- by which calls, and how it is counted

abbrev pub acts : (name octets : List ℕ) → Outcome → List Call
acts name octets (stays why) = tell name why ∷ []
acts name octets (known first) = tell_known name first ∷ []
acts name octets (captured moment first) = capture name moment octets (taken first) ∷ []
acts name octets (turned_away moment why) = capture name moment octets (refused why) ∷ tell name (because why) ∷ []

-- THE CALLS FOR A FINDING: a message that is captured is handed over once, with the octets that were found; one that stays is told
abbrev pub course : Finding → List Call
course (message name (boxed octets) o) = acts name octets o
course (message name oversized o) = acts name [] o
course (message name (filed octets) o) = read name (Ok octets) ∷ acts name octets o
course (message name (unread why) o) = read name (Err why) ∷ acts name [] o
course (nameless count) = tell_nameless count ∷ []
course (empty_folder path) = tell_empty path ∷ []
course (beside files folders) = []
course (undated_lines path first count) = tell_undated path first count ∷ []

abbrev pub counted : Outcome → ImportTally → ImportTally
counted (stays why) t = with_staying why t
counted (known first) t = record t { known = one_more t.known }
counted (captured moment first) t = record t { taken = one_more t.taken }
counted (turned_away moment why) t = with_staying (because why) t

-- EACH FINDING IS COUNTED ONCE
abbrev pub tallied : Finding → ImportTally → ImportTally
tallied (message name found o) t = counted o t
tallied (nameless count) t = record t { unfit = more count t.unfit }
tallied (empty_folder path) t = record t { empty = one_more t.empty }
tallied (beside files folders) t = with_beside files folders t
tallied (undated_lines path first count) t = t

unfoldable pub tallied_all : List Finding → ImportTally → ImportTally
tallied_all [] t = t
tallied_all (s ∷ ss) t = tallied_all ss (tallied s t)

module _ (terms : Terms) where
  abbrev pub IsRight : FirstRecords → Finding → Type 0
  IsRight first (message name found o) = IsOutcome terms first found o
  IsRight first (nameless count) = Unit {0}
  IsRight first (empty_folder path) = Unit {0}
  IsRight first (beside files folders) = Unit {0}
  IsRight first (undated_lines path lines count) = Unit {0}

  -- EACH MESSAGE HAS THE OUTCOME that is decided of it, by what is known then, also of the messages that were captured before it
  unfoldable pub AreRight : FirstRecords → List Finding → Type 0
  AreRight first [] = Unit {0}
  AreRight first (s ∷ ss) = IsRight first s × AreRight (known_after s first) ss

-- ---- what the sources have

-- the name of a message of an mbox, as old.mbox:3
abbrev pub boxed_name : (path : List ℕ) → (number : ℕ) → List ℕ
boxed_name path number = path ++ codes ":" ++ decimal number

abbrev pub found_of : Option (List ℕ) → Found
found_of (Some octets) = boxed octets
found_of None = oversized

abbrev pub IsOfBox : (path : List ℕ) (number : ℕ) → Option (List ℕ) → Finding → Type 0
IsOfBox path number m (message name found o) = (name ≡ boxed_name path number) × (found ≡ found_of m)
IsOfBox path number m _ = ⊥

-- THESE ARE THE MESSAGES OF AN MBOX, each once and in order, the first of which has this number
unfoldable pub AreOfBox : (path : List ℕ) → (number : ℕ) → List (Option (List ℕ)) → List Finding → Type 0
AreOfBox path number [] [] = Unit {0}
AreOfBox path number (m ∷ ms) (s ∷ ss) = IsOfBox path number m s × AreOfBox path (number + 1) ms ss
AreOfBox path number ms ss = ⊥

-- what is found in an mbox after its messages: which of its lines look like separators and have no date, if there are any
abbrev pub undated_of : (path : List ℕ) → (numbers : List ℕ) → List Finding
undated_of path [] = []
undated_of path (first ∷ more) = undated_lines path first (count_of (first ∷ more)) ∷ []

abbrev pub IsRead : (octets : List ℕ) → Found → Type 0
IsRead octets (filed found) = found ≡ octets
IsRead octets (unread why) = Unit {0}
IsRead octets found = ⊥

-- what is found in a folder after its messages
abbrev pub rest_of : (path : List ℕ) → (paths : List (List ℕ)) → (count : ℕ) → List Finding
rest_of path paths count =
    if not (count == 0) then nameless count ∷ [] else (if length paths == 0 then empty_folder path ∷ [] else [])

-- ---- of the mail that the files have

abbrev pub AreOfMbox : (path : List ℕ) → Mail → List Finding → Type 0
AreOfMbox path m ss = (messages : List Finding) × AreOfBox path (m.first path) (m.messages path) messages
    × (ss ≡ messages ++ undated_of path (m.undated path))

abbrev pub IsOfFile : (path : List ℕ) → Mail → Finding → Type 0
IsOfFile path m (message name found o) = (name ≡ path) × IsRead (m.octets path) found
IsOfFile path m _ = ⊥

-- THESE ARE THE MESSAGES OF FILES, each once and in order
unfoldable pub AreOfFiles : (paths : List (List ℕ)) → Mail → List Finding → Type 0
AreOfFiles [] m [] = Unit {0}
AreOfFiles (path ∷ paths) m (s ∷ ss) = IsOfFile path m s × AreOfFiles paths m ss
AreOfFiles paths m ss = ⊥

-- what is found in a folder or Maildir after its messages
abbrev pub end_of : Source → (path : List ℕ) → Mail → List Finding
end_of source path m = rest_of path (m.paths source) (m.nameless source) ++ beside (m.files source) (m.folders source) ∷ []

abbrev pub AreOfFolder : Source → (path : List ℕ) → Mail → List Finding → Type 0
AreOfFolder source path m ss = (messages : List Finding) × AreOfFiles (m.paths source) m messages × (ss ≡ messages ++ end_of source path m)

abbrev pub AreOfSource : Source → Mail → List Finding → Type 0
AreOfSource (Mbox path) m ss = AreOfMbox path.now m ss
AreOfSource (Folder path) m ss = AreOfFolder (Folder path) path.now m ss
AreOfSource (Maildir path) m ss = AreOfFolder (Maildir path) path.now m ss

-- THESE ARE THE MESSAGES OF ALL SOURCES, each once and in order
unfoldable pub AreOfSources : List Source → Mail → List Finding → Type 0
AreOfSources [] m ss = ss ≡ []
AreOfSources (source ∷ sources) m ss =
    (first : List Finding) × (more : List Finding) × AreOfSource source m first × AreOfSources sources m more × (ss ≡ first ++ more)

-- ---- one message of them

abbrev pub IsOne : (Holds : Finding → Type 0) → List Finding → Type 0
IsOne Holds [] = ⊥
IsOne Holds (s ∷ []) = Holds s
IsOne Holds (s ∷ t ∷ ss) = ⊥

abbrev pub IsBoxed : (path : List ℕ) → (number : ℕ) → Option (List ℕ) → Mail → List Finding → Type 0
IsBoxed path number octets m ss = IsOne (IsOfBox path number octets) ss

abbrev pub IsFiled : (path : List ℕ) → Mail → List Finding → Type 0
IsFiled path m ss = IsOne (IsOfFile path m) ss
