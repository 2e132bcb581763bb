-- What a reader is told of the headers of messages.
use Rattle.std.specs.Prelude.{◌≡◌, ℕ, List, [], ◌∷◌, Option, Some, None, Ok, string_bytes}
use Rattle.std.specs.Borrow.{Bor}
use Rattle.cli_texts.specs.declared.headers.Headers.{Headers}
use Rattle.cli_texts.specs.Headers.{date_of, sender_of, subject_of}
use Rattle.record_archive.specs.Archive.{Archive, message}
use Rattle.record_choice.specs.declared.entry.RecordEntry.{RecordEntry}

-- THE TEXTS OF THE HEADER of the message of a record
pub record AreTextsOf (a : Archive) (number : ℕ) (h : Headers) : Type 0 where
  pub octets : List ℕ
  pub of_it : message a number ≡ Ok (Some octets)
  pub sender : string_bytes h.sender ≡ sender_of octets
  pub subject : string_bytes h.subject ≡ subject_of octets
  pub date : string_bytes h.date ≡ date_of octets

-- what is told beside a record, if anything is, is what the header of its message says
abbrev pub IsToldBeside : Archive → RecordEntry → Option (Bor Headers) → Type 0
IsToldBeside a e None = Unit {0}
IsToldBeside a e (Some h) = AreTextsOf a e.number h.now

-- WHAT IS TOLD BESIDE RECORDS: of each from the first one on, in their order, or of none
abbrev pub AreBeside : Archive → List RecordEntry → List Headers → Type 0
AreBeside a es [] = Unit {0}
AreBeside a [] (h ∷ hs) = ⊥
AreBeside a (e ∷ es) (h ∷ hs) = AreTextsOf a e.number h × AreBeside a es hs
