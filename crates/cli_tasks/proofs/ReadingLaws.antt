-- What is read of volumes, one after another.
use Rattle.std.specs.Prelude.{Ok, Err, Result, Option, Some, None, IfSome}
use Rattle.std.proofs.Common.{◌≡◌, ◌∙◌, ap, sym}
use Rattle.jiff_core.specs.declared.civil.date.Date.{Date}
use Rattle.sqlite.specs.Held.{Held}
use Rattle.cli_console.specs.declared.failure.Failure.{Failure}
use Rattle.record_store.specs.declared.store.Store.{Store}
use Rattle.cli_tasks.specs.Readings.{GoesWell}
use Rattle.cli_tasks.specs.Works.{IsDone}
use Rattle.cli_tasks.specs.declared.volume_readings.Reading.{Reading}

-- what a volume was read for is read where nothing is refused
pub lent_well : {S K : Type 0} (IsAt : Store S → Type 0) (old new : Reading K) (Reads : Store S → Held S → (x y : K) → Type 0)
    → IsDone IsAt (λ before after. GoesWell old new (Reads before after))
    → GoesWell old new (λ x y. IsDone IsAt (λ before after. Reads before after x y))
lent_well IsAt old new Reads d none =
    let made = d.made none in (made.0, record { before = d.before; after = d.after; was_there = d.was_there; made = made.1 })

-- ---- the day of a report

abbrev day_or : Result Date Failure → Date → Date
day_or (Ok day) other = day
day_or (Err failure) other = other

-- the day that is found is the one that is typed, if one is
pub day_as_typed : (typed : Option Date) (found : Result Date Failure) (day : Date) → IfSome typed (λ d. found ≡ Ok d) → found ≡ Ok day
    → IfSome typed (λ d. day ≡ d)
day_as_typed None found day given is = tt
day_as_typed (Some d) found day given is = ap (λ r. day_or r day) (sym is ∙ given)
