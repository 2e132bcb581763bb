use Rattle.std.proofs.Common.{refl}
use Rattle.sqlite_tied.specs.Compute.{everything}
use Rattle.record_reads.specs.DueRecords.{due_record_values, ReadsDueRecord, due_record_of}
use Rattle.record_reads.proofs.DueRecords.{shows_due_records, one_due_record, can_due_record}
use Rattle.record_reads.proofs.TypedLemmas.{if_ok, back, readable}
use Rattle.record_reads.proofs.due_records.due_records_by.Goals as goal

pub read_all-requires : goal.read_all-requires
unfolding everything
read_all-requires g c = refl

pub returns-clause-all : goal.returns-clause-all
returns-clause-all g c clean =
    if_ok c.read_all.result _ _ (c.read_all.ensures.all clean) (λ all h t s keyed.
    let shown = shows_due_records _ _ h.0 c.args.day t s keyed (rw c.to_sql.ensures at h.1.0) in
    back due_record_values ReadsDueRecord due_record_of one_due_record h.0 _ all.items shown h.1.1)

pub returns-clause-none : goal.returns-clause-none
returns-clause-none g c clean is t s keyed fits =
    let found = c.read_all.ensures.none clean is in
    let shown = shows_due_records _ _ found.0 c.args.day t s keyed (rw c.to_sql.ensures at found.1.0) in
    found.1.1 (readable due_record_values _ _ can_due_record found.0 _ shown fits)
