use Rattle.std.proofs.Common.{◌∙◌, ap, refl, sym, subst, map}
use Rattle.std.specs.Vec.{with_items}
use Rattle.record_judge.specs.Indexes.{IsRecordIndex}
use Rattle.record_judge.specs.Refilings.{placed}
use Rattle.record_judge.specs.Sealed.{archive_view, record_view}
use Rattle.record_judge.proofs.RefilingLemmas.{kept_placed, rows_back}
use Rattle.record_judge.proofs.sealed.SealedArchive.move_records.Goals as goal

pub returns-clause-archive : goal.returns-clause-archive
returns-clause-archive c = λ kept.
    let was = c.args.self.now in
    let n = c.args.number in
    let q = c.args.path.now in
    let here = subst (IsRecordIndex was.record_index) (sym c.as_mut_slice.ensures.value) kept.records in
    let seen = c.in_ok-place_rows.ensures here ∙ ap (λ l. map (placed n q) (map record_view l)) c.as_mut_slice.ensures.value in
    ap (λ rs. record (archive_view was) { records = rs })
    (rows_back was.records.len n q was.records.items c.place_rows.new.rows was.records.ok.0 seen)

pub returns-clause-kept : goal.returns-clause-kept
returns-clause-kept c = λ kept.
    let was = c.args.self.now in
    let n = c.args.number in
    let q = c.args.path.now in
    let here = subst (IsRecordIndex was.record_index) (sym c.as_mut_slice.ensures.value) kept.records in
    let seen = c.in_ok-place_rows.ensures here ∙ ap (λ l. map (placed n q) (map record_view l)) c.as_mut_slice.ensures.value in
    kept_placed n q was (record was { records = with_items was.records c.place_rows.new.rows })
    (rows_back was.records.len n q was.records.items c.place_rows.new.rows was.records.ok.0 seen) refl refl refl refl refl refl kept
