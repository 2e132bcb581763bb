-- What a certificate says of a record that is destroyed.
use Rattle.std.specs.Prelude.{◌≡◌, ◌||◌, ℕ, List, [], Option, Some, None, is_none, option_map}
use Rattle.std.specs.Str.{IsUtf8}
use Rattle.record_choice.specs.Disposals.{certificate_view}
use Rattle.record_choice.specs.Disposals as choice
use Rattle.record_choice.specs.declared.destruction.Destroyed.{Destroyed}
use Rattle.cli_texts.specs.Lines.{certificate}
use Rattle.cli_texts.specs.Moments.{IsMomentText}
use Rattle.cli_texts.specs.Sums.{digits_of_sum}
use Rattle.cli_texts.specs.declared.certificates.CapturedMessage.{CapturedMessage}
use Rattle.cli_texts.specs.declared.certificates.Certificate.{Certificate}
use Rattle.cli_history.specs.Seals.{fidelity, known, length_and_sum}
use Rattle.cli_history.specs.Titles.{title_seen, title_for}
use Rattle.cli_history.specs.declared.seals.Fidelity.{Fidelity}
use Rattle.cli_history.specs.declared.seals.Fidelity.TheVariants.{Unsealed, Same, Altered}
use Rattle.cli_history.specs.declared.seals.Seals.{Seals}
use Rattle.cli_changes.specs.declared.certificates.Certificates.{Certificates}

-- digits as a text, which is empty where they are no UTF-8
pub record IsTextOf (digits text : List ℕ) : Type 0 where
  pub same : IsUtf8 digits → text ≡ digits
  pub none : (IsUtf8 digits → ⊥) → text ≡ []

-- THE MESSAGE THAT WAS CAPTURED, where that of a record is another one: it had the length and the sum that the history tells
abbrev pub IsCaptured : Fidelity → (told : Option (ℕ × List ℕ)) → Option CapturedMessage → Type 0
IsCaptured (Altered event) (Some told) (Some c) = (c.octets ≡ told.0) × IsTextOf told.1 c.sum.now
IsCaptured (Altered event) (Some told) None = ⊥
IsCaptured (Altered event) None c = c ≡ None
IsCaptured Unsealed told c = c ≡ None
IsCaptured Same told c = c ≡ None

-- the same of a message with this length and these digits of its sum, by the seals of a history
abbrev pub IsCapturedBeside : Seals → (message : ℕ) → (octets : ℕ) → (digits : List ℕ) → Option CapturedMessage → Type 0
IsCapturedBeside seals message octets digits c =
    IsCaptured (fidelity (known seals message) (record { octets = octets; sum = digits })) (option_map length_and_sum (known seals message)) c

-- WHAT IS CERTIFIED of a record: the record as it was listed, the number of its volume, if it has one, the title of its class by the
-- history, its message with the digits of its sum, the message that was captured, where its own is another one, and which record keeps that
pub record Certifies (of_volume : Option ℕ) (d : Destroyed) (seals : Seals) (digits : List ℕ) (at : ℕ) (c : Certificate) : Type 0 where
  pub volume : c.volume ≡ of_volume
  pub number : c.number ≡ d.entry.number
  pub path : c.path.now ≡ d.entry.path.items
  pub title : option_map title_seen c.title ≡ title_for seals.titles d.entry
  pub due : c.due ≡ d.entry.due
  pub octets : c.octets ≡ d.octets
  pub sum : c.sum.now ≡ digits
  pub moment : c.moment ≡ at
  pub kept_by : c.kept_by ≡ d.kept_by
  pub captured : IsCapturedBeside seals d.entry.message d.octets digits c.captured

-- THE LINE OF A CERTIFICATE that is made out at some moment
abbrev pub IsCertificateLine : (volume : Option ℕ) → Destroyed → Seals → List ℕ → Type 0
IsCertificateLine volume d seals line =
    (c : Certificate) × (text : List ℕ) × Certifies volume d seals (digits_of_sum d.sum) c.moment c × IsMomentText c.moment text
    × (line ≡ certificate c text)

-- A LINE IS THAT OF A CERTIFICATE of a record, by the seals and the titles of a history: of the record that was listed so, with this
-- length, this sum and this keeper of its message; it names the volume, if there is one
abbrev pub IsLineOf : (volume : Option ℕ) → Seals → choice.Certificate → List ℕ → Type 0
IsLineOf volume seals c line = (d : Destroyed) × (certificate_view d ≡ c) × IsCertificateLine volume d seals line

-- A CERTIFICATE IS TAKEN: its line is printed, and no other; it is known then whether a message is gone; and the volume and the history by
-- which certificates are made out stay
pub record IsTaken {P : Type 0} (prints : P → P → List ℕ → Type 0) (old new : Certificates P) (c : choice.Certificate) : Type 0 where
  pub line : List ℕ
  pub is_of : IsLineOf old.volume old.seals.now c line
  pub printed : prints old.printer new.printer line
  pub gone : new.is_any_gone ≡ (old.is_any_gone || is_none c.kept_by)
  pub volume : new.volume ≡ old.volume
  pub seals : new.seals ≡ old.seals
