use Rattle.std.proofs.Common.{arith}
use Rattle.session_protocol.proofs.DayLemmas.{before_1970, made, made_none, made_year, day_in_range}
use Rattle.session_protocol.proofs.dates.real_date.Goals as goal

pub returns-then-year-lt-FIRST_YEAR : goal.returns-then-year-lt-FIRST_YEAR
returns-then-year-lt-FIRST_YEAR c = before_1970 c.args.year c.args.month c.args.day (omega arith)

pub invariant_of-result : goal.invariant_of-result
invariant_of-result c = record {
  in_range =
      day_in_range c.in-Ok.date (made_year c.new.result _ _ _ c.if-year-lt-FIRST_YEAR.false c.requires.year c.requires.month
      c.requires.day c.new.ensures.succeeds c.new.ensures.value c.in-Ok.date c.in-Ok.is);
}

pub returns-in-Ok : goal.returns-in-Ok
returns-in-Ok c =
    made c.new.result _ _ _ c.if-year-lt-FIRST_YEAR.false c.requires.year c.requires.month c.requires.day
    c.new.ensures.succeeds c.new.ensures.value c.in-Ok.date c.in-Ok.is

pub returns-in-Err : goal.returns-in-Err
returns-in-Err c =
    made_none c.new.result _ _ _ c.if-year-lt-FIRST_YEAR.false c.requires.year c.requires.month c.requires.day
    c.new.ensures.succeeds c.new.ensures.value c.in-Err.field-0 c.in-Err.is
