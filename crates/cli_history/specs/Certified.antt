-- The certificates of a history: what they tell of the events that destroy records.
use Rattle.std.specs.Prelude.{◌≡◌, ℕ, Bool, true, List, [], ◌∷◌, ◌++◌, Option, Some, None, is_some, if◌then◌else◌, codes}
use Rattle.std.specs.Str.{bytes_eq}
use Rattle.choice_words.specs.declared.numbers.TypedNumbers.{TypedNumbers}
use Rattle.record_tables.specs.Events.{Event as Row}
use Rattle.record_history.specs.Events.{Deed, Event, Destroyed}
use Rattle.cli_texts.specs.Lines.{told_certificate}
use Rattle.cli_texts.specs.Moments.{IsMomentText}
use Rattle.cli_texts.specs.declared.events.ToldCertificate.{ToldCertificate}
use Rattle.cli_console.specs.Sequences.{AreTexts, only}
use Rattle.cli_console.specs.Sinks.{Writes}
use Rattle.cli_history.specs.Chosen.{is_about}
use Rattle.cli_history.specs.Lawful.{Watches}
use Rattle.cli_history.specs.Missing.{are_met, unmet}
use Rattle.cli_history.specs.Tellings.{TellEach, TellsRow}
use Rattle.cli_history.specs.declared.certificates.PrintedCertificates.{PrintedCertificates}

-- the record that a deed destroys, if it destroys one
abbrev pub destroyed_by : Deed → Option ℕ
destroyed_by (Destroyed n day schedule) = Some n
destroyed_by deed = None

-- THE RECORD FOR WHICH A CERTIFICATE IS ASKED: that which an event destroys, where it is one of the numbers that are typed, if any are
abbrev pub certified : List TypedNumbers → Event → Option ℕ
certified words e = if is_about words e.deed then destroyed_by e.deed else None

-- a certificate tells of the event of a row: of its record and of itself by their numbers in the volume, when and by whom it was done and
-- for what reason, and whether it notes that the message was another one
pub record IsOfEvent (volume : Option ℕ) (r : Row) (e : Event) (c : ToldCertificate) : Type 0 where
  pub volume_is : c.volume ≡ volume
  pub number : destroyed_by e.deed ≡ Some c.number
  pub event : c.event ≡ r.number
  pub moment : c.moment ≡ e.moment
  pub who : c.who.now ≡ e.who
  pub reason : c.reason.now ≡ e.reason
  pub altered : c.is_altered ≡ bytes_eq e.notes (codes "message=altered")

-- THE CERTIFICATE OF AN EVENT is a line that tells of it, where it destroys a record; any other event has none
abbrev pub IsCertificateOf : (volume : Option ℕ) → Row → Event → Option (List ℕ) → Type 0
IsCertificateOf volume r e None = destroyed_by e.deed ≡ None
IsCertificateOf volume r e (Some text) = (c : ToldCertificate) × IsOfEvent volume r e c
    × (moment : List ℕ) × IsMomentText e.moment moment × (text ≡ told_certificate c moment)

-- ---- several

-- the event of a row that tells one, where a certificate is asked for
abbrev pub certified_at : List TypedNumbers → Row → Option Event → List (Row × Event)
certified_at words r None = []
certified_at words r (Some e) = only (is_some (certified words e)) (r, e)

-- THE EVENTS OF WHICH CERTIFICATES ARE ASKED, of rows that tell these, in their order
abbrev pub certified_rows : List TypedNumbers → List Row → List (Option Event) → List (Row × Event)
certified_rows words (r ∷ rows) (o ∷ told) = certified_at words r o ++ certified_rows words rows told
certified_rows words rows told = []

-- their deeds
abbrev pub deeds_of : List (Row × Event) → List Deed
deeds_of [] = []
deeds_of (x ∷ xs) = x.1.deed ∷ deeds_of xs

-- whether it is the first one makes no difference
abbrev pub IsLineOf : (volume : Option ℕ) → (is_first : Bool) → Row × Event → List ℕ → Type 0
IsLineOf volume is_first x line = IsCertificateOf volume x.0 x.1 (Some line)

-- the certificate of the event of a row is written, where it is asked for, and nothing else
pub record CertifiesRow {K : Type 0} (written : K → List ℕ → Type 0) (was : PrintedCertificates) (before : K) (r : Row)
    (is : PrintedCertificates) (after : K) : Type 0 where
  pub told : Option Event
  pub tells : TellsRow r told
  pub text : List ℕ
  pub are : AreTexts (IsLineOf was.volume) true (certified_at was.typed.now r told) text
  pub added : Writes written before after text
  pub typed : is.typed ≡ was.typed
  pub volume : is.volume ≡ was.volume
  pub watch : is.watch ≡ was.watch
  pub met : is.missing.rest.items ≡ unmet was.missing.rest.items (deeds_of (certified_at was.typed.now r told))

-- the certificates of these rows that are asked for are written, each once, in this order, and nothing else; and all of the rows were
-- judged
pub record Certifies {K : Type 0} (written : K → List ℕ → Type 0) (was : PrintedCertificates) (before : K) (rows : List Row)
    (is : PrintedCertificates) (after : K) : Type 0 where
  pub told : List (Option Event)
  pub tell : TellEach rows told
  pub text : List ℕ
  pub are : AreTexts (IsLineOf was.volume) true (certified_rows was.typed.now rows told) text
  pub added : Writes written before after text
  pub typed : is.typed ≡ was.typed
  pub volume : is.volume ≡ was.volume
  pub watched : (before : List Row) → Watches was.watch before → Watches is.watch (before ++ rows)
  pub met : is.missing.rest.items ≡ unmet was.missing.rest.items (deeds_of (certified_rows was.typed.now rows told))

-- THE CERTIFICATES OF THESE ROWS that are asked for are written, and nothing else
abbrev pub WritesCertificates : {K : Type 0} → (written : K → List ℕ → Type 0) → (volume : Option ℕ) → List TypedNumbers → (before : K)
    → List Row → (after : K) → Type 0
WritesCertificates written volume words before rows after = (told : List (Option Event)) × TellEach rows told
    × (text : List ℕ) × AreTexts (IsLineOf volume) true (certified_rows words rows told) text × Writes written before after text

-- these numbers are left of those that are typed: no event of which a certificate is written tells of one
pub record LeavesUncertified (words : List TypedNumbers) (rows : List Row) (left : List TypedNumbers) : Type 0 where
  pub told : List (Option Event)
  pub tell : TellEach rows told
  pub are : left ≡ unmet words (deeds_of (certified_rows words rows told))

-- EACH NUMBER THAT IS TYPED IS MET: a certificate is written of an event that destroys a record of it
pub record CertifiesEach (words : List TypedNumbers) (rows : List Row) : Type 0 where
  pub told : List (Option Event)
  pub tell : TellEach rows told
  pub met : are_met words (deeds_of (certified_rows words rows told)) ≡ true
