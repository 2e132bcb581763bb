use Rattle.std.proofs.Common.{◌∙◌, ap, not, ◌==◌, refl}
use Rattle.sqlite_tied.specs.Compute.{everything}
use Rattle.record_tables.specs.Rows.{Tables}
use Rattle.record_reads.proofs.LookupLemmas.{shows_hold}
use Rattle.record_reads.proofs.lookup.has_hold.Goals as goal

pub rows_of-requires : goal.rows_of-requires
unfolding everything
rows_of-requires g c = refl

pub returns-clause-there : goal.returns-clause-there
returns-clause-there g c clean = λ (t : Tables) s keyed.
    let rows = c.in_ok-rows.rows.items in
    let shown = shows_hold _ _ rows c.args.name.now c.args.number t s keyed (rw c.to_sql.ensures at (c.in_ok-rows.ensures.shown clean)) in
    ap not (c.is_empty.ensures ∙ ap (λ k. k == 0) c.in_ok-rows.rows.ok.0) ∙ shown
