-- Whether a row is that of a due day.
use Rattle.std.specs.Prelude.{ℕ, ◌==◌, ◌&&◌, Bool, false, pos}
use Rattle.sqlite.specs.declared.types.Value.{Value}
use Rattle.sqlite.specs.declared.types.Value.TheVariants.{Int}
use Rattle.sqlite.specs.Order.{Row, column}
use Rattle.record_tables.specs.Rows.{Due}

abbrev pub is_number : Value → ℕ → Bool
is_number (Int (pos m)) n = m == n
is_number _ n = false

-- the columns of the row are the due day's
abbrev pub shows_due : Row → Due → Bool
shows_due row d = is_number (column row 0) d.number && is_number (column row 1) d.day
