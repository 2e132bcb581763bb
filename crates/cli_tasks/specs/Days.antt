-- By which days the clock is judged where the volume in which mail is captured has no record.
use Rattle.std.specs.Prelude.{◌≡◌, ◌<◌, ◌≤◌, ◌-◌, ◌&&◌, ℕ, Bool, true, false, List, Option, Some, None, nat_le}
use Rattle.sqlite.specs.State.{HasCleanDisk}
use Rattle.sqlite.specs.Store.{Ghosts}
use Rattle.sqlite.specs.Held.{Held, state}
use Rattle.record_archive.specs.Archive.{Archive}
use Rattle.record_store.specs.Stores.{StandsFor}
use Rattle.record_store.specs.declared.store.Store.{Store}
use Rattle.cli_changes.specs.Moments.{IsLookedFor, needs_day}
use Rattle.cli_changes.specs.declared.moments.Timing.{Timing}
use Rattle.cli_tasks.specs.Works.{InVolume}

-- how many volumes come before one, and before a store that is none
abbrev pub volumes_before : Option ℕ → ℕ
volumes_before None = 0
volumes_before (Some volume) = volume - 1

-- whether a day is to be looked for in the volumes before a store, of which this is the next number: it has no record, and no day is known
abbrev pub looks_back : (next : ℕ) → Timing → Bool
looks_back next known = nat_le next 1 && needs_day known

-- THE LAST DAY OF A STORE is looked for, beside what is known
pub record ShowsDay {S : Type 0} (g : Ghosts S) (known : Timing) (before : Store S) (after : Held S) (looked : Timing) : Type 0 where
  pub asked : looked.asked ≡ known.asked
  pub last : HasCleanDisk (state g after) → (a : Archive) → StandsFor g before a → IsLookedFor known.asked known.last a looked.last

module _ {S : Type 0} (g : Ghosts S) (IsAt : (path : List ℕ) → Store S → Type 0) (folder : List ℕ) where
  -- it is looked for in a volume
  abbrev pub ShowsDayIn : (known : Timing) → (volume : ℕ) → (looked : Timing) → Type 0
  ShowsDayIn known v looked = InVolume IsAt folder v (λ before after. ShowsDay g known before after looked)

  -- a volume shows no day, since it has no record
  abbrev pub ShowsNone : (known : Timing) → (volume : ℕ) → Type 0
  ShowsNone known v = (looked : Timing) × (needs_day looked ≡ true) × ShowsDayIn known v looked

  -- THE DAY OF THE NEWEST VOLUME that has a record, up to the last one: those after it show none. No day is known where each shows none;
  -- then `newest` is 0.
  pub record LooksBack (last : ℕ) (known looked : Timing) : Type 0 where
    pub newest : ℕ
    pub within : newest ≤ last
    pub empty : (v : ℕ) → newest < v → v ≤ last → ShowsNone known v
    pub none : newest ≡ 0 → looked ≡ known
    pub some : 1 ≤ newest → needs_day looked ≡ false
    pub shown : 1 ≤ newest → ShowsDayIn known newest looked
