-- The moment that a text gives (RFC 5322, sections 3.3 and 4.3), in seconds since 1970-01-01T00:00:00Z.
use Rattle.std.specs.Prelude.{ℕ, ℤ, pos, int_lt, unsigned_abs, List, Bool, true, Option, Some, None, Result, Ok, Err, if◌then◌else◌}
use Rattle.std.specs.Option.{option_and_then}
use Rattle.std.specs.Int.{int_div_euclid}
use Rattle.jiff_core.specs.declared.error.Error.{Error}
use Rattle.jiff_fmt.specs.Rfc2822.{timestamp}
use Rattle.mail_dates.specs.Comments.{without_comments}

-- a number of seconds since 1970; none before that
abbrev pub since_1970 : ℤ → Option ℕ
since_1970 seconds = if int_lt seconds (pos 0) then None else Some (unsigned_abs seconds)

-- the second in which a moment of so many nanoseconds lies
abbrev pub second_of : Result ℤ Error → Option ℕ
second_of (Ok nanoseconds) = since_1970 (int_div_euclid nanoseconds (pos 1_000_000_000))
second_of (Err e) = None

-- THE MOMENT OF A TEXT: that of the date which it is without its comments, by the grammar of jiff_fmt, whatever day of the week it
-- names. None where it is no date, or one before 1970.
abbrev pub moment_of : List ℕ → Option ℕ
moment_of text = option_and_then (λ plain. second_of (timestamp true plain)) (without_comments text)
