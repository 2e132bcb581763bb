-- Whether the archive's command destroys a record, and why not.
use Rattle.std.specs.Prelude.{◌≡◌, ℕ, ℤ, pos, option_map, Ok, Err}
use Rattle.jiff.specs.Words.{epoch_day}
use Rattle.class_plan.specs.Plans.{schedule_at}
use Rattle.record_archive.specs.Archive.{Archive, due_of, destroy_on}
use Rattle.record_archive.specs.declared.fault.ArchiveRefusal.TheVariants as refusal
use Rattle.record_choice.specs.Entries.{OfRecord, name_list, hold_names}
use Rattle.record_choice.specs.declared.reasons.Reason.{Reason}
use Rattle.record_choice.specs.declared.reasons.Reason.TheVariants.{NoRecord, Destroyed, Held, NotForDestruction, NotDue}

-- the command destroys the record of the number by the day
abbrev pub MayGo : Archive → ℤ → ℕ → Type 0
MayGo a day n = (b : Archive) × (destroy_on a n day ≡ Ok b)

-- the command refuses to destroy the record for this reason: the names are those of its holds, the schedule is that of
-- its class, and the date is its due day
abbrev pub IsReason : Archive → ℤ → ℕ → Reason → Type 0
IsReason a day n NoRecord = destroy_on a n day ≡ Err refusal.NoRecord
IsReason a day n Destroyed = destroy_on a n day ≡ Err refusal.Destroyed
IsReason a day n (Held names) = (destroy_on a n day ≡ Err refusal.Held) × (name_list names.items ≡ hold_names a n)
IsReason a day n (NotForDestruction schedule) = (destroy_on a n day ≡ Err refusal.NotForDestruction)
    × OfRecord a n (λ r. schedule ≡ schedule_at a.plan r.path)
IsReason a day n (NotDue due) = (destroy_on a n day ≡ Err refusal.NotDue)
    × OfRecord a n (λ r. option_map epoch_day due ≡ option_map pos (due_of a r))
