use Rattle.std.proofs.Common.{◌∙◌, sym, ap, arith, Some}
use Rattle.std.specs.Prelude.{unsigned_abs}
use Rattle.record_history.proofs.RealDays.{made, made_none, made_year, year_low, year_high, month_high, day_high, told_day, small_day}
use Rattle.record_history.proofs.days.real_day.Goals as goal
use Rattle.record_history.proofs.days.real_day.Goals.{then-year-lt1970-via-then-year-lt1970, then-year-lt1970-via-else-year-lt1970+then-year-gt9999}
use Rattle.record_history.proofs.days.real_day.Goals.{then-year-lt1970-via-else-year-lt1970+else-year-gt9999+then-month-gt12}
use Rattle.record_history.proofs.days.real_day.Goals.{then-year-lt1970-via-else-year-lt1970+else-year-gt9999+else-month-gt12+then-day-gt31}

pub returns-then-year-lt1970-clause-day : goal.returns-then-year-lt1970-clause-day
returns-then-year-lt1970-clause-day c = elim c.then-year-lt1970.branch [
  | then-year-lt1970-via-then-year-lt1970 w ↦ year_low c.args.year c.args.month c.args.day w.if-year-lt1970.true
  | then-year-lt1970-via-else-year-lt1970+then-year-gt9999 w ↦ year_high c.args.year c.args.month c.args.day w.if-year-gt9999.true
  | then-year-lt1970-via-else-year-lt1970+else-year-gt9999+then-month-gt12 w ↦ month_high c.args.year c.args.month c.args.day w.if-month-gt12.true
  | then-year-lt1970-via-else-year-lt1970+else-year-gt9999+else-month-gt12+then-day-gt31 w ↦ day_high c.args.year c.args.month c.args.day
      w.if-day-gt31.true
]

pub overflow_cast-result : goal.overflow_cast-result
overflow_cast-result c =
    let low =
    made_year c.new.result _ _ _ c.if-year-lt1970.false c.if-year-gt9999.false c.if-month-gt12.false c.if-day-gt31.false
    c.new.ensures.succeeds c.new.ensures.value c.in-Ok.date c.in-Ok.is in
    let small = small_day c.in-Ok.date low in
    rw (told_day c.day_number.result c.in-Ok.date c.day_number.ensures.number low) (tt, omega (arith, small))

pub returns-in-Ok-clause-day : goal.returns-in-Ok-clause-day
returns-in-Ok-clause-day c =
    let low =
    made_year c.new.result _ _ _ c.if-year-lt1970.false c.if-year-gt9999.false c.if-month-gt12.false c.if-day-gt31.false
    c.new.ensures.succeeds c.new.ensures.value c.in-Ok.date c.in-Ok.is in
    made c.new.result _ _ _ c.if-year-lt1970.false c.if-year-gt9999.false c.if-month-gt12.false c.if-day-gt31.false
    c.new.ensures.succeeds c.new.ensures.value c.in-Ok.date c.in-Ok.is
    ∙ ap (λ z. Some (unsigned_abs z)) (sym (told_day c.day_number.result c.in-Ok.date c.day_number.ensures.number low))

pub returns-in-Ok-clause-within : goal.returns-in-Ok-clause-within
returns-in-Ok-clause-within c =
    let low =
    made_year c.new.result _ _ _ c.if-year-lt1970.false c.if-year-gt9999.false c.if-month-gt12.false c.if-day-gt31.false
    c.new.ensures.succeeds c.new.ensures.value c.in-Ok.date c.in-Ok.is in
    rw (told_day c.day_number.result c.in-Ok.date c.day_number.ensures.number low) (small_day c.in-Ok.date low)

pub returns-in-Err-clause-day : goal.returns-in-Err-clause-day
returns-in-Err-clause-day c =
    made_none c.new.result _ _ _ c.if-year-lt1970.false c.if-year-gt9999.false c.if-month-gt12.false c.if-day-gt31.false
    c.new.ensures.succeeds c.new.ensures.value c.in-Err.field-0 c.in-Err.is
