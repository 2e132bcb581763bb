use Rattle.record_tables.specs.Changes.{Always, IsPastRecords, with_destruction, with_record, new_record}
use Rattle.record_tables.specs.CodeRows.{record_of}
use Rattle.record_tables.proofs.Loops.{puts_then, puts_as, writes_next}
use Rattle.record_copy.proofs.NewRowsLemmas.{marked_last}
use Rattle.record_copy.proofs.writes.insert_record_row.Goals as goal

pub returns-in_ok-set_destroyed : goal.returns-in_ok-set_destroyed
returns-in_ok-set_destroyed g c =
    let row = c.args.row.now in
    let live = new_record row.number row.message row.path.items row.day in
    writes_next g.S.Store _ _ _ _ (rw c.as_slice.ensures.value at c.in_ok-insert_record.ensures) c.in_ok-set_destroyed.ensures
    (λ one two. puts_as _ _ (IsPastRecords row.number) (IsPastRecords row.number) _ (with_record (record_of row)) (λ t h. h)
    (λ t past. marked_last t (record_of row) c.if-row.true past)
    (puts_then _ _ _ (IsPastRecords row.number) Always (with_record live) (with_destruction row.number) (λ t h. tt) one two))
