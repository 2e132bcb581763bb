-- Which record is shown, and which message.
use Rattle.std.specs.Prelude.{◌≡◌, ℕ, Bool, true, false}
use Rattle.record_archive.specs.Archive.{Archive}
use Rattle.record_choice.specs.Entries.{OfRecord, entry_of, entry_view}
use Rattle.record_choice.specs.declared.entry.RecordEntry.{RecordEntry}
use Rattle.cli_history.specs.declared.seals.Fidelity.{Fidelity}
use Rattle.cli_history.specs.declared.seals.Fidelity.TheVariants.{Unsealed, Same, Altered}

-- THE ENTRY OF THE RECORD with a number
abbrev pub IsEntryOf : Archive → ℕ → RecordEntry → Type 0
IsEntryOf a number e = OfRecord a number (λ r. entry_view e ≡ entry_of a r)

-- a message is the one that was captured, as far as that is known
abbrev pub is_unaltered : Fidelity → Bool
is_unaltered Unsealed = true
is_unaltered Same = true
is_unaltered (Altered event) = false
