-- Texts that are queries, and what they show.
use Rattle.std.specs.Prelude.{◌≡◌, ℕ, Bool, true, false, List, Result, Ok, Err, OnOk}
use Rattle.sqlite_ast.specs.declared.Statement.{Statement}
use Rattle.sqlite_ast.specs.declared.Statement.TheVariants as written
use Rattle.sqlite_syntax.specs.declared.statement.Parsed.{Parsed}
use Rattle.sqlite_resolve.specs.Lowering.{Checked}
use Rattle.sqlite_resolve.specs.Compile.{first}
use Rattle.sqlite.specs.Order.{Row}
use Rattle.sqlite.specs.Store.{Ghosts}
use Rattle.sqlite.specs.State.{State, HasCleanDisk, IsUnchanged, Shown}
use Rattle.sqlite.specs.Held.{Held, state}

abbrev pub is_select : Statement → Bool
is_select (written.Select s) = true
is_select _ = false

abbrev pub begins_select : Checked Parsed → Bool
begins_select (Ok p) = is_select p.statement
begins_select (Err e) = false

-- the text is a SELECT
abbrev pub IsSelect : List ℕ → Type 0
IsSelect text = begins_select (first text) ≡ true

-- the query shows rows of which this holds
abbrev pub ShowsSuch : List ℕ → Row → (old new : State) → (List Row → Type 0) → Type 0
ShowsSuch text params old new Holds = (rows : List Row) × (Shown text params old new rows × Holds rows)

-- where it succeeds, nothing changes
abbrev pub ChangesNothing : {S T E : Type 0} → Ghosts S → (old new : Held S) → Result T E → Type 0
ChangesNothing g old new result = HasCleanDisk (state g new) → OnOk result (IsUnchanged (state g old) (state g new))
