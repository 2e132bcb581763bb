use Rattle.std.proofs.Common.{◌≡◌, pos, Some, subst, sym, ◌∙◌, arith}
use Rattle.jiff_core.specs.declared.civil.date.Date.{Date}
use Rattle.jiff.proofs.SpanFacts.{signed_arith}
use Rattle.class_plan.specs.Dates.{IsYearEnd}
use Rattle.class_plan.proofs.CalendarLemmas.{due_by_is, capture_number}
use Rattle.class_plan.proofs.Due.{due-only, due-later, due-period, due-year_end}
use Rattle.class_plan.proofs.dates.due_date.Goals as goal
use Rattle.class_plan.proofs.dates.due_date.Goals.{then-year_end, else-year_end}

last_day : (d e f : Date) → f ≡ e → e.year ≡ d.year → pos e.month ≡ pos 12 → pos e.day ≡ pos 31 → IsYearEnd d f
last_day d e f same y m n =
    let end : IsYearEnd d e = record { year = y; month = omega (arith, signed_arith); day = omega (arith, signed_arith) } in
    subst (λ z. IsYearEnd d z) (sym same) end

pub returns-after-year_end-clause-due : goal.returns-after-year_end-clause-due
returns-after-year_end-clause-due c = elim c.if-year_end.branch [
  | then-year_end w ↦
      due-year_end c.args.day c.args.schedule _ _ _ _ c.period_after-date.result c.if-year_end.result c.in-After.is
      w.if-year_end.true c.period_after-date.ensures (last_day c.period_after-date.result w.last_of_year.result
      c.if-year_end.result w.result-is w.last_of_year.ensures.0 w.last_of_year.ensures.1 w.last_of_year.ensures.2)
  | else-year_end w ↦
      due-period c.args.day c.args.schedule _ _ _ _ c.period_after-date.result c.if-year_end.result c.in-After.is
      w.if-year_end.false c.period_after-date.ensures w.result-is
]

pub returns-after-year_end-clause-number : goal.returns-after-year_end-clause-number
returns-after-year_end-clause-number c =
    due_by_is c.args.day _ c.args.schedule (Some c.if-year_end.result) c.requires.day c.requires.range
    (capture_number c.args.day c.requires.day) (returns-after-year_end-clause-due c)

pub returns-after-year_end-clause-only : goal.returns-after-year_end-clause-only
returns-after-year_end-clause-only c = λ r h.
    due-only c.args.day c.args.schedule r (Some c.if-year_end.result) h (returns-after-year_end-clause-due c)

pub returns-after-year_end-clause-later : goal.returns-after-year_end-clause-later
returns-after-year_end-clause-later c =
    due-later c.args.day c.args.schedule c.if-year_end.result c.requires.day c.requires.range
    (returns-after-year_end-clause-due c)
