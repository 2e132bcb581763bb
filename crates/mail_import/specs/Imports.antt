-- What an import does, from one moment to another.
use Rattle.std.specs.Prelude.{◌≡◌, ℕ, List, [], ◌∷◌, ◌++◌, Some, None, Ok}
use Rattle.std.specs.List.{flat_map}
use Rattle.mail_import.specs.Calls.{Answer, Call, read, capture, taken, refused, ended}
use Rattle.mail_import.specs.Fates.{FirstRecords, Knows, decided}
use Rattle.mail_import.specs.Findings.{AreRight, Agrees, Found, boxed, oversized, filed, unread, Outcome, acts, counted, known_by}
use Rattle.mail_import.specs.Findings.{Finding, message, course, known_after_all, tallied_all}
use Rattle.mail_import.specs.Sources.{Mail, OnlyMakes}
use Rattle.mail_import.specs.declared.fate.Fate.TheVariants as fate
use Rattle.mail_import.specs.declared.message.Progress.{Progress}
use Rattle.mail_import.specs.declared.message.Terms.{Terms}

-- where an import ends before its end: between two messages, or as a message was to be captured
pub data Ending : Type 0 where
  between : Ending
  at_message : (name : List ℕ) → Found → (moment : ℕ) → Answer → Ending

abbrev pub last_course : Ending → List Call
last_course between = []
last_course (at_message name (filed octets) moment answer) = read name (Ok octets) ∷ capture name moment octets answer ∷ []
last_course (at_message name (boxed octets) moment answer) = capture name moment octets answer ∷ []
last_course (at_message name oversized moment answer) = []
last_course (at_message name (unread why) moment answer) = []

-- what is to come begins with the message at which an import ended
abbrev pub EndsBefore : Ending → List Finding → Type 0
EndsBefore between rest = Unit {0}
EndsBefore (at_message name found moment answer) [] = ⊥
EndsBefore (at_message name found moment answer) (message n f o ∷ rest) = (n ≡ name) × (f ≡ found)
EndsBefore (at_message name found moment answer) (_ ∷ rest) = ⊥

-- AN ANSWER TO A CAPTURE ENDS AN IMPORT: nothing more can be captured, and what is known and counted is what was before this message, so
-- that the import can be gone on with; or there is no memory to know what was captured
abbrev pub EndsBy : Answer → (before after : Progress) → Type 0
EndsBy ended before after = after ≡ before
EndsBy (taken (Some first)) before after = Unit {0}
EndsBy (taken None) before after = ⊥
EndsBy (refused why) before after = ⊥

-- the same of an end between two messages, or at one
abbrev pub EndsSo : Ending → (before after : Progress) → Type 0
EndsSo between before after = after ≡ before
EndsSo (at_message name found moment answer) before after = EndsBy answer before after

module _ (terms : Terms) where
  abbrev pub IsEnding : FirstRecords → Ending → Type 0
  IsEnding first between = Unit {0}
  IsEnding first (at_message name (filed octets) moment answer) = decided terms first octets ≡ fate.Taken moment
  IsEnding first (at_message name (boxed octets) moment answer) = decided terms first octets ≡ fate.Taken moment
  IsEnding first (at_message name found moment answer) = ⊥

module _ {M : Type 0} (goes : M → List Call → M → Type 0) (has : M → Mail → Type 0) (terms : Terms) where
  -- A MESSAGE OF THESE OCTETS is taken with this outcome
  pub record Takes (room : M) (p : Progress) (name octets : List ℕ) (o : Outcome) (after : M) (q : Progress) : Type 0 where
    pub calls : OnlyMakes goes has room after (acts name octets o)
    pub tally : q.tally ≡ counted o p.tally
    pub right : (first : FirstRecords) → Knows p.known first → Agrees (decided terms first octets) o × Knows q.known (known_by octets o first)

  -- or the import ends at it
  pub record EndsAt (room : M) (p : Progress) (name octets : List ℕ) (after : M) (q : Progress) : Type 0 where
    pub moment : ℕ
    pub answer : Answer
    pub ends : EndsBy answer p q
    pub calls : OnlyMakes goes has room after (capture name moment octets answer ∷ [])
    pub right : (first : FirstRecords) → Knows p.known first → decided terms first octets ≡ fate.Taken moment

  -- ALL THIS WAS FOUND AND DONE: the calls are those for what was found and no others, each message has the outcome that is decided of
  -- it, and the counts are those of what was found
  pub record Does (room : M) (p : Progress) (findings : List Finding) (after : M) (q : Progress) : Type 0 where
    pub calls : OnlyMakes goes has room after (flat_map course findings)
    pub tally : q.tally ≡ tallied_all findings p.tally
    pub right : (first : FirstRecords) → Knows p.known first → AreRight terms first findings × Knows q.known (known_after_all findings first)

  -- ALL FINDINGS OF WHICH THIS HOLDS, by the mail that the files have, were made, and all was done
  pub record TakesAll (Are : Mail → List Finding → Type 0) (room : M) (p : Progress) (after : M) (q : Progress) : Type 0 where
    pub findings : List Finding
    pub does : Does room p findings after q
    pub all : (m : Mail) → has room m → Are m findings

  -- AN IMPORT ENDS BEFORE ITS END: this was found and done, and it stays done. It is a beginning of all of which this holds, so nothing was
  -- left out, and what comes next is the message at which it ended
  pub record Breaks (Are : Mail → List Finding → Type 0) (room : M) (p : Progress) (after : M) (q : Progress) : Type 0 where
    pub findings : List Finding
    pub between_room : M
    pub between_progress : Progress
    pub ending : Ending
    pub ends : EndsSo ending between_progress q
    pub does : Does room p findings between_room between_progress
    pub calls : OnlyMakes goes has between_room after (last_course ending)
    pub right : (first : FirstRecords) → Knows between_progress.known first → IsEnding terms first ending
    pub beginning : (m : Mail) → has room m → (rest : List Finding) × EndsBefore ending rest × Are m (findings ++ rest)
