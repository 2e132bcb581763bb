-- A day that is looked for in volumes, from the last one down.
use Rattle.std.proofs.Common.{◌≡◌, ◌≤◌, ◌+◌, ◌-◌, ℕ, false, List, None, Some, arith, refl}
use Rattle.std.specs.Prelude.{Option}
use Rattle.std.specs.Option.{unwrap_or}
use Rattle.sqlite.specs.Store.{Ghosts}
use Rattle.record_store.specs.declared.store.Store.{Store}
use Rattle.cli_changes.specs.Moments.{needs_day}
use Rattle.cli_changes.specs.declared.moments.Timing.{Timing}
use Rattle.cli_tasks.specs.Days.{LooksBack, ShowsDayIn, ShowsNone, volumes_before}
use Rattle.cli_tasks.proofs.DownLaws.{FromLast}

-- the number of a volume, less one, is how many come before it
pub before_number : (volume : Option ℕ) → unwrap_or volume 0 - 1 ≡ volumes_before volume
before_number None = refl
before_number (Some v) = refl

module _ {S : Type 0} (g : Ghosts S) (IsAt : (path : List ℕ) → Store S → Type 0) (folder : List ℕ) (known : Timing) where
  -- so many volumes show none, up to the last one
  abbrev pub EmptyAbove : (last later : ℕ) → Type 0
  EmptyAbove last later = FromLast (ShowsNone g IsAt folder known) last later

  pub found_back : (last later volume : ℕ) (looked : Timing) → volume + later ≡ last → 1 ≤ volume → EmptyAbove last later
      → needs_day looked ≡ false → ShowsDayIn g IsAt folder known volume looked → LooksBack g IsAt folder last known looked
  found_back last later volume looked at some above day shows = record {
    newest = volume;
    within = omega (arith, at);
    empty = λ v more within. above v (omega (arith, at, more)) within;
    none = λ zero. let no : ⊥ = omega (arith, some, zero) in absurd no;
    some = λ h. day;
    shown = λ h. shows;
  }

  pub none_back : (last : ℕ) → EmptyAbove last last → LooksBack g IsAt folder last known known
  none_back last above = record {
    newest = 0;
    within = omega arith;
    empty = λ v more within. above v (omega (arith, more)) within;
    none = λ zero. refl;
    some = λ h. let no : ⊥ = omega (arith, h) in absurd no;
    shown = λ h. let no : ⊥ = omega (arith, h) in absurd no;
  }
