-- What the headers of messages say, beside the records that are found.
use Rattle.std.specs.Prelude.{ℕ, Bool, true, false, List, [], ◌∷◌, map, Option, Some, None, Result, Ok, Err, string_bytes}
use Rattle.record_archive.specs.Archive.{Archive, message}
use Rattle.record_archive.specs.declared.fault.ArchiveRefusal.{ArchiveRefusal}
use Rattle.record_choice.specs.Entries.{RecordEntry}
use Rattle.cli_texts.specs.declared.headers.Headers as own
use Rattle.cli_texts.specs.Headers.{sender_of, subject_of, date_of}
use Rattle.cli_choice.specs.declared.search.Beside.{Beside}
use Rattle.cli_choice.specs.declared.search.Beside.TheVariants.{Nothing, Headers}

-- a sender, a subject and a date in UTF-8
abbrev pub Texts : Type 0
Texts = List ℕ × List ℕ × List ℕ

abbrev pub texts_view : own.Headers → Texts
texts_view h = (string_bytes h.sender, string_bytes h.subject, string_bytes h.date)

abbrev pub texts_of : List ℕ → Texts
texts_of message = (sender_of message, subject_of message, date_of message)

abbrev pub texts_if : Option own.Headers → List Texts
texts_if None = []
texts_if (Some h) = texts_view h ∷ []

abbrev pub texts_kept : Beside → (found : Bool) → List ℕ → List Texts
texts_kept Nothing found message = []
texts_kept Headers false message = []
texts_kept Headers true message = texts_of message ∷ []

abbrev pub texts_told : Result (Option (List ℕ)) ArchiveRefusal → Texts
texts_told (Ok (Some message)) = texts_of message
texts_told (Ok None) = texts_of []
texts_told (Err f) = texts_of []

-- the texts of an entry's message, as the archive has it
abbrev pub texts_in : Archive → RecordEntry → Texts
texts_in a e = texts_told (message a e.number)

-- THE TEXTS of the entries that are found, where they are asked for
abbrev pub texts_found : Archive → Beside → List RecordEntry → List Texts
texts_found a Nothing es = []
texts_found a Headers es = map (texts_in a) es
