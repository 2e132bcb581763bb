-- Due days.
use Rattle.std.specs.Prelude.{Bool, false, int_le, Option, Some, None}
use Rattle.jiff.specs.Words.{epoch_day}
use Rattle.jiff_core.specs.declared.civil.date.Date.{Date}

-- there is a due day, and it is not later than the day
abbrev pub is_by : (due : Option Date) → (day : Date) → Bool
is_by None day = false
is_by (Some due) day = int_le (epoch_day due) (epoch_day day)
