use Rattle.std.proofs.Common.{map, sym, ap, subst, ◌∙◌, Err, rules}
use Rattle.std.specs.List.{AllByRecursion}
use Rattle.sqlite.specs.Effect.{Database}
use Rattle.sqlite.specs.State.{HasCleanDisk}
use Rattle.sqlite.specs.Held.{state}
use Rattle.record_archive.specs.Archive.{Archive, Message}
use Rattle.record_tables.specs.Rows.{Tables, Stores}
use Rattle.record_tables.specs.Reads.{FitsRecord, FitsNumber}
use Rattle.record_tables.specs.CodeRows.{record_of}
use Rattle.record_reads.proofs.TypedLemmas.{handed_on}
use Rattle.record_reads.specs.Lookups.{Looks}
use Rattle.record_adoption.specs.Keeping.{dues_in}
use Rattle.record_adoption.proofs.AdoptReads.{archive_common, stores_common}
use Rattle.record_adoption.specs.Faults.{AreInOrder}
use Rattle.record_adoption.proofs.AdoptRows.{records_fit, numbers_fit}
use Rattle.record_adoption.proofs.PlanDays.{archive_in_order}
use Rattle.record_copy.proofs.CauseLemmas.{placed_fit}
use Rattle.record_copy.specs.Messages.{KeepsRows}
use Rattle.record_copy.proofs.LookLemmas.{looks_common, looks_then, kept_then}
use Rattle.record_copy.proofs.source.read_source.Given.{Over}
use Rattle.record_copy.proofs.source.read_source.Goals.{After-records, In_ok-records, After-message_numbers, In_ok-messages, After-placed_holds}
use Rattle.record_copy.proofs.source.read_source.Goals as goal

pub returns-clause-tells : goal.returns-clause-tells
returns-clause-tells g c clean = λ (t : Tables) stored keyed.
    let old = state g.S.Store c.args.from.now in
    let mid = state g.S.Store c.records.new.conn in
    let last = state g.S.Store c.message_numbers.new.conn in
    let clean2 : HasCleanDisk last = c.placed_holds.ensures.frame.falls clean in
    let clean1 : HasCleanDisk mid = c.message_numbers.ensures.frame.falls clean2 in
    let one = (c.in_ok-records.ensures.frame.same clean1 (archive_common old.now.schema stored.schema)).0.now_is in
    let then = subst (λ (db : Database). Stores db t) (sym one) stored in
    let two = (c.in_ok-messages.ensures.frame.same clean2 (archive_common mid.now.schema then.schema)).0.now_is in
    let records = c.in_ok-records.ensures.all clean1 t (stores_common old.now t stored) keyed in
    record {
      records = records;
      messages = c.in_ok-messages.ensures.all clean2 t (stores_common mid.now t then) keyed;
      holds = c.in_ok-holds.ensures.all clean t (subst (λ (db : Database). Stores db t) (sym two) then) keyed;
      dues = rw c.as_slice.ensures.value at c.in_ok-dues.ensures.rows ∙ ap (dues_in c.args.plan.now) records;
    }

-- ---- each read is a look that keeps the rows

records_looked : (g : Over) (c : After-records g) → Looks g.S.Store c.args.from.now c.records.new.conn
records_looked g c =
    let made = c.records.ensures.frame in
    looks_common g.S.Store _ _ made.idle made.falls made.quiet made.survives

records_kept : (g : Over) (c : In_ok-records g) → KeepsRows g.S.Store c.args.from.now c.records.new.conn
records_kept g c clean has = (c.in_ok-records.ensures.frame.same clean (archive_common _ has)).0.now_is

messages_looked : (g : Over) (c : After-message_numbers g) → Looks g.S.Store c.args.from.now c.message_numbers.new.conn
messages_looked g c =
    let made = c.message_numbers.ensures.frame in
    let at = (goal.at.After-message_numbers g c).In_ok-records in
    looks_then g.S.Store _ _ _ (records_looked g (goal.at.In_ok-records g at).After-records) (records_kept g at)
    (looks_common g.S.Store _ _ made.idle made.falls made.quiet made.survives)

messages_kept : (g : Over) (c : In_ok-messages g) → KeepsRows g.S.Store c.args.from.now c.message_numbers.new.conn
messages_kept g c =
    kept_then g.S.Store c.args.from.now c.records.new.conn c.message_numbers.new.conn
    (records_kept g (goal.at.In_ok-messages g c).In_ok-records) c.message_numbers.ensures.frame.falls
    (λ clean has. (c.in_ok-messages.ensures.frame.same clean (archive_common _ has)).0.now_is)

holds_looked : (g : Over) (c : After-placed_holds g) → Looks g.S.Store c.args.from.now c.placed_holds.new.conn
holds_looked g c =
    let at = (goal.at.After-placed_holds g c).In_ok-messages in
    let three : Looks g.S.Store c.message_numbers.new.conn c.placed_holds.new.conn = search rules in
    looks_then g.S.Store _ _ _ (messages_looked g (goal.at.In_ok-messages g at).After-message_numbers) (messages_kept g at) three

pub returns-clause-kept : goal.returns-clause-kept
returns-clause-kept g c =
    kept_then g.S.Store c.args.from.now c.message_numbers.new.conn c.placed_holds.new.conn
    (messages_kept g (goal.at.returns-clause-kept g c).In_ok-messages) c.placed_holds.ensures.frame.falls
    (λ clean has. (c.in_ok-holds.ensures.frame.same clean has).0.now_is)

pub returns-clause-looks : goal.returns-clause-looks
returns-clause-looks g c = holds_looked g (goal.at.returns-clause-looks g c).After-placed_holds

pub returns-in_err-dues-clause-looks : goal.returns-in_err-dues-clause-looks
returns-in_err-dues-clause-looks g c = holds_looked g (goal.at.returns-in_err-dues-clause-looks g c).After-placed_holds

pub returns-in_err-holds-clause-looks : goal.returns-in_err-holds-clause-looks
returns-in_err-holds-clause-looks g c = holds_looked g (goal.at.returns-in_err-holds-clause-looks g c).After-placed_holds

pub returns-in_err-messages-clause-looks : goal.returns-in_err-messages-clause-looks
returns-in_err-messages-clause-looks g c = messages_looked g (goal.at.returns-in_err-messages-clause-looks g c).After-message_numbers

pub returns-in_err-records-clause-looks : goal.returns-in_err-records-clause-looks
returns-in_err-records-clause-looks g c = records_looked g (goal.at.returns-in_err-records-clause-looks g c).After-records

pub returns-in_err-records-clause-none : goal.returns-in_err-records-clause-none
returns-in_err-records-clause-none g c clean is = λ (a : Archive) archive s.
    let old = state g.S.Store c.args.from.now in
    let e = handed_on c.from_residual.result c.in_err-records.field-0.0 c.from_residual.ensures.1 is in
    c.in_err-records.ensures.none clean (ap Err e) s.tables (stores_common old.now s.tables s.stored) s.keyed
    (subst (AllByRecursion FitsRecord) (sym s.keeps.records) (records_fit a archive))

pub returns-in_err-messages-clause-none : goal.returns-in_err-messages-clause-none
returns-in_err-messages-clause-none g c clean is = λ (a : Archive) archive s.
    let old = state g.S.Store c.args.from.now in
    let mid = state g.S.Store c.records.new.conn in
    let e = handed_on c.from_residual-in_err-messages.result c.in_err-messages.field-0.0 c.from_residual-in_err-messages.ensures.1 is in
    let clean1 : HasCleanDisk mid = c.message_numbers.ensures.frame.falls clean in
    let one = (c.in_ok-records.ensures.frame.same clean1 (archive_common old.now.schema s.stored.schema)).0.now_is in
    let then = subst (λ (db : Database). Stores db s.tables) (sym one) s.stored in
    c.in_err-messages.ensures.none clean (ap Err e) s.tables (stores_common mid.now s.tables then) s.keyed
    (subst (AllByRecursion FitsNumber) (ap (map (λ (m : Message). m.number)) (sym s.keeps.messages)) (numbers_fit a archive))

pub returns-in_err-holds-clause-none : goal.returns-in_err-holds-clause-none
returns-in_err-holds-clause-none g c clean is = λ (a : Archive) archive s.
    let old = state g.S.Store c.args.from.now in
    let mid = state g.S.Store c.records.new.conn in
    let last = state g.S.Store c.message_numbers.new.conn in
    let e = handed_on c.from_residual-in_err-holds.result c.in_err-holds.field-0.0 c.from_residual-in_err-holds.ensures.1 is in
    let clean2 : HasCleanDisk last = c.placed_holds.ensures.frame.falls clean in
    let clean1 : HasCleanDisk mid = c.message_numbers.ensures.frame.falls clean2 in
    let one = (c.in_ok-records.ensures.frame.same clean1 (archive_common old.now.schema s.stored.schema)).0.now_is in
    let then = subst (λ (db : Database). Stores db s.tables) (sym one) s.stored in
    let two = (c.in_ok-messages.ensures.frame.same clean2 (archive_common mid.now.schema then.schema)).0.now_is in
    c.in_err-holds.ensures.none clean (ap Err e) s.tables (subst (λ (db : Database). Stores db s.tables) (sym two) then) s.keyed
    (placed_fit a s.tables s.keeps.holds archive)

pub returns-in_err-dues-clause-none : goal.returns-in_err-dues-clause-none
returns-in_err-dues-clause-none g c clean is = λ (a : Archive) archive s.
    let old = state g.S.Store c.args.from.now in
    let e = handed_on c.from_residual-in_err-dues.result c.in_err-dues.field-0.0 c.from_residual-in_err-dues.ensures.1 is in
    let clean1 = c.message_numbers.ensures.frame.falls (c.placed_holds.ensures.frame.falls clean) in
    let rows = ap (map record_of) c.as_slice.ensures.value
    ∙ c.in_ok-records.ensures.all clean1 s.tables (stores_common old.now s.tables s.stored) s.keyed ∙ s.keeps.records in
    c.in_err-dues.ensures.none (ap Err e) (subst AreInOrder (sym rows) (archive_in_order a archive))
