use Rattle.std.proofs.Common.{◌≡◌, ◌++◌, [], ◌∷◌, ◌∙◌, ap, subst, sym}
use Rattle.record_tables.specs.CodeRows.{record_of}
use Rattle.record_tables.specs.declared.fault.Fault.TheVariants.{NoMemory, NoArchive}
use Rattle.record_adoption.specs.Keeping.{AreBelow, dues_in}
use Rattle.record_adoption.proofs.PlanDays.{dues_next, dues_before, day_at}
use Rattle.record_reads.proofs.TypedLemmas.{handed_on}
use Rattle.record_adoption.proofs.plan_days.due_rows_by.Goals as goal

pub loop-row-preserved : goal.loop-row-preserved
loop-row-preserved c =
    let was = c.loop-row.invariant in
    let v = c.row-item.result in
    let p = c.args.plan.now in
    record {
      rows = c.in_ok-push_due_row.ensures.rows ∙ ap (λ l. l ++ dues_in p (record_of v ∷ [])) was.rows
          ∙ dues_next p record_of c.args.records.now v c.loop-row.row-index c.loop-row-test.true c.row-item.is;
      ascending = c.in_ok-push_due_row.ensures.ascending;
    }

pub returns-in_err-push_due_row-clause-none : goal.returns-in_err-push_due_row-clause-none
returns-in_err-push_due_row-clause-none c is = λ order.
    let v = c.row-item.result in
    let vs = c.args.records.now in
    let i = c.loop-row.row-index in
    let below = subst (AreBelow v.number) (sym c.loop-row.invariant.rows)
    (dues_before c.args.plan.now record_of vs v i c.loop-row-test.true c.row-item.is order) in
    let told : c.in_err-push_due_row.field-0.0 ≡ NoMemory =
    c.in_err-push_due_row.ensures.refused (day_at record_of vs v i c.loop-row-test.true c.row-item.is order)
    below in
    let none : c.in_err-push_due_row.field-0.0 ≡ NoArchive =
    handed_on c.from_residual.result c.in_err-push_due_row.field-0.0 c.from_residual.ensures.1 is in
    cc
