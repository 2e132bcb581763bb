use Rattle.std.proofs.Common.{refl}
use Rattle.sqlite_tied.specs.Compute.{everything}
use Rattle.record_tables.specs.Reads.{record_values, ReadsRecord}
use Rattle.record_tables.specs.CodeRows.{record_of}
use Rattle.record_reads.proofs.ReadLemmas.{shows_records}
use Rattle.record_reads.proofs.TypedLemmas.{if_ok, back, readable, one_record, can_record}
use Rattle.record_reads.proofs.RawLemmas.{typed_records}
use Rattle.record_reads.proofs.read.records.Goals as goal

pub read_all-requires : goal.read_all-requires
unfolding everything
read_all-requires g c = refl

pub returns-clause-all : goal.returns-clause-all
returns-clause-all g c clean =
    if_ok c.read_all.result _ _ (c.read_all.ensures.all clean) (λ all h t s keyed.
    back record_values ReadsRecord record_of one_record h.0 _ all.items (shows_records _ _ h.0 t s keyed h.1.0) h.1.1)

pub returns-clause-none : goal.returns-clause-none
returns-clause-none g c clean is t s keyed fits =
    let found = c.read_all.ensures.none clean is in
    found.1.1 (readable record_values _ _ can_record found.0 _ (shows_records _ _ found.0 t s keyed found.1.0) fits)

pub returns-clause-typed : goal.returns-clause-typed
returns-clause-typed g c clean =
    if_ok c.read_all.result _ _ (c.read_all.ensures.all clean) (λ all h has. typed_records record_of _ _ h.0 all.items h.1.0 h.1.1)
