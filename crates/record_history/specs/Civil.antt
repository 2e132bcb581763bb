-- The parts of a day's date.
use Rattle.std.specs.Prelude.{ℕ}
use Rattle.class_plan.specs.Calendar.{Civil, civil}

-- the year, the month and the day of a day number
unfoldable pub civil_of : ℕ → Civil
civil_of n = civil n
