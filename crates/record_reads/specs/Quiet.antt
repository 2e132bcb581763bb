-- Queries that change nothing, whatever tables there are.
use Rattle.std.specs.Prelude.{◌≡◌, false, IsTrue, Result}
use Rattle.sqlite.specs.Store.{Ghosts}
use Rattle.sqlite.specs.Schema.{Schema}
use Rattle.sqlite.specs.State.{HasCleanDisk}
use Rattle.sqlite.specs.Held.{Held, state}
use Rattle.record_tables.specs.Steps.{CommitsNothingOf, Falls, IsIdle, ReadsAlone, WasOpenOnOk}

-- Outside a transaction, the rows are as they were while the connection is open, also where the query fails.
abbrev pub IsQuiet : {S : Type 0} → Ghosts S → (old new : Held S) → Type 0
IsQuiet g old new = old.in_transaction ≡ false → HasCleanDisk (state g new) → IsTrue (state g new).is_open
    → IsTrue (state g old).is_open × ((state g new).now ≡ (state g old).now)

-- What a read promises beside its rows. Where these tables are there, it changes nothing and a crash leaves nothing of
-- it; outside a transaction it is quiet and opens none. A disk that is clean after it was clean before.
pub record ReadsQuietly {S T E : Type 0} (g : Ghosts S) (old new : Held S) (result : Result T E)
    (Are : Schema → Type 0) : Type 0 where
  pub same : ReadsAlone g old new result (Are (state g old).now.schema)
  pub quiet : IsQuiet g old new
  pub was_open : WasOpenOnOk g old new result
  pub falls : Falls g old new
  pub idle : IsIdle g old new
  pub survives : CommitsNothingOf g old new (Are (state g old).now.schema)
