use Rattle.std.proofs.Common.{◌≡◌, ◌∙◌, refl, sym, ap, subst, map}
use Rattle.std.specs.Bool.{Decides}
use Rattle.std.specs.Cmp.Lexicographic.{pointwise}
use Rattle.sqlite_tied.specs.Compute.{everything}
use Rattle.record_tables.specs.Reads.{due_values}
use Rattle.record_tables.specs.CodeRows.{due_of}
use Rattle.record_reads.specs.StoredDues.{shows_due}
use Rattle.record_reads.proofs.ReadLemmas.{shows_stored}
use Rattle.record_reads.proofs.StoredDueLemmas.{dues-told}
use Rattle.record_reads.proofs.stored_dues.are_dues.Goals as goal

pub rows_of-requires : goal.rows_of-requires
unfolding everything
rows_of-requires g c = refl

pub returns-clause-are : goal.returns-clause-are
returns-clause-are g c clean t s keyed =
    let dues = map due_of c.args.dues.now in
    let shown = shows_stored _ _ c.in_ok-rows.rows.items t s keyed (c.in_ok-rows.ensures.shown clean) in
    let same : c.show_dues.result ≡ pointwise shows_due (map due_values t.dues) dues = c.show_dues.ensures
    ∙ ap (λ r. pointwise shows_due r dues) (c.as_slice.ensures.value ∙ shown) in
    subst (λ b. Decides b (t.dues ≡ dues)) (sym same) (dues-told t.dues dues)
