use Rattle.std.proofs.Common.{◌∙◌, ap, refl, ◌==◌, Err}
use Rattle.sqlite_tied.specs.Compute.{everything}
use Rattle.sqlite_keyed.proofs.ListLemmas.{all-filter, slice_get-filter}
use Rattle.record_items.specs.Items.{Record}
use Rattle.record_tables.specs.Rows.{Tables}
use Rattle.record_tables.specs.Reads.{record_values, ReadsRecord, FitsRecord}
use Rattle.record_tables.specs.CodeRows.{record_of}
use Rattle.record_reads.proofs.LookupLemmas.{few_records, shows_record, popped}
use Rattle.record_reads.proofs.TypedLemmas.{back, readable, one_record, can_record, handed_on}
use Rattle.record_reads.proofs.lookup.record_by_number.Goals as goal

pub read_all-requires : goal.read_all-requires
unfolding everything
read_all-requires g c = refl

pub returns-clause-record : goal.returns-clause-record
returns-clause-record g c clean = λ (t : Tables) s keyed.
    let found = c.in_ok-records.ensures.all clean in
    let n = c.args.number in
    let all = c.in_ok-records.records.items in
    let shown = shows_record _ _ found.0 n t s keyed (rw c.to_sql.ensures at found.1.0) in
    let read = back record_values ReadsRecord record_of one_record found.0 _ all shown found.1.1 in
    popped record_of all _ _ c.pop.result c.in_ok-records.records.ok.0 read (few_records n t keyed) c.pop.ensures.variant.0 c.pop.ensures.value
    ∙ slice_get-filter (λ (r : Record). r.number == n) t.records

pub returns-in_err-records-clause-none : goal.returns-in_err-records-clause-none
returns-in_err-records-clause-none g c clean is = λ (t : Tables) s keyed fits.
    let told = handed_on c.from_residual.result c.in_err-records.field-0.0 c.from_residual.ensures.1 is in
    let found = c.in_err-records.ensures.none clean (ap (λ f. Err f) told) in
    let n = c.args.number in
    found.1.1 (readable record_values _ _ can_record found.0 _
    (shows_record _ _ found.0 n t s keyed (rw c.to_sql.ensures at found.1.0)) (all-filter FitsRecord (λ r. r.number == n) t.records fits))

pub returns-in_err-records-clause-seen : goal.returns-in_err-records-clause-seen
returns-in_err-records-clause-seen g c clean is =
    c.in_err-records.ensures.seen clean (ap (λ f. Err f) (handed_on c.from_residual.result c.in_err-records.field-0.0 c.from_residual.ensures.1 is))
