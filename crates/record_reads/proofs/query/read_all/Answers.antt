use Rattle.record_tables.specs.declared.fault.Fault.TheVariants.{NoArchive}
use Rattle.record_reads.proofs.TypedLemmas.{on_ok, if_ok, if_err_is, never_none}
use Rattle.record_reads.proofs.query.read_all.Goals as goal

pub returns-clause-all : goal.returns-clause-all
returns-clause-all g c clean =
    if_ok c.rows_in.result _ _ c.rows_in.ensures.all (λ all h.
    (c.in_ok-rows.rows.items, (c.in_ok-rows.ensures.shown clean, rw c.as_slice.ensures.value at h)))

pub returns-clause-none : goal.returns-clause-none
returns-clause-none g c clean is =
    let none = if_err_is c.rows_in.result NoArchive _ is c.rows_in.ensures.none in
    (c.in_ok-rows.rows.items, (c.in_ok-rows.ensures.shown clean, rw c.as_slice.ensures.value at ((none (λ e. cc)).1)))

pub returns-in_err-rows-clause-none : goal.returns-in_err-rows-clause-none
returns-in_err-rows-clause-none g c clean is = absurd (never_none c.from_residual.result c.in_err-rows.field-0.0 c.from_residual.ensures.1 is)

pub returns-clause-seen : goal.returns-clause-seen
returns-clause-seen g c clean is = c.in_ok-rows.ensures.was_open clean

pub returns-in_err-rows-clause-seen : goal.returns-in_err-rows-clause-seen
returns-in_err-rows-clause-seen g c clean is = absurd (never_none c.from_residual.result c.in_err-rows.field-0.0 c.from_residual.ensures.1 is)

pub returns-clause-same : goal.returns-clause-same
returns-clause-same g c clean = on_ok c.rows_in.result _ (c.in_ok-rows.ensures.same clean)
