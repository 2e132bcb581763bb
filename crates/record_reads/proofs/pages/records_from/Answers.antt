use Rattle.std.proofs.Common.{refl}
use Rattle.sqlite_tied.specs.Compute.{everything}
use Rattle.record_tables.specs.Reads.{record_values, ReadsRecord}
use Rattle.record_tables.specs.CodeRows.{record_of}
use Rattle.record_reads.proofs.PageReads.{shows_from}
use Rattle.record_reads.proofs.TypedLemmas.{if_ok, back, readable, one_record, can_record}
use Rattle.record_reads.proofs.pages.records_from.Goals as goal

pub read_all-requires : goal.read_all-requires
unfolding everything
read_all-requires g c = refl

pub returns-clause-all : goal.returns-clause-all
returns-clause-all g c clean =
    if_ok c.read_all.result _ _ (c.read_all.ensures.all clean) (λ all h t s keyed.
    let asked = rw (c.to_sql.ensures, c.to_sql-2.ensures) at h.1.0 in
    back record_values ReadsRecord record_of one_record h.0 _ all.items (shows_from _ _ h.0 c.args.from c.args.most t s keyed asked) h.1.1)

pub returns-clause-none : goal.returns-clause-none
returns-clause-none g c clean is t s keyed fits =
    let found = c.read_all.ensures.none clean is in
    let asked = rw (c.to_sql.ensures, c.to_sql-2.ensures) at found.1.0 in
    found.1.1 (readable record_values _ _ can_record found.0 _ (shows_from _ _ found.0 c.args.from c.args.most t s keyed asked) fits)
