use Rattle.std.proofs.Common.{ap, Err}
use Rattle.record_archive.specs.Archive.{Archive}
use Rattle.record_store.proofs.Causes.{not_own-lost_or}
use Rattle.record_store.proofs.CommandLemmas.{still_looked}
use Rattle.record_store.proofs.EntryReads.{looks_at}
use Rattle.record_store.proofs.DueLemmas.{due_records_fit}
use Rattle.record_store.proofs.store.Store.due_records.Goals as goal

pub returns-in-Err-clause-cause : goal.returns-in-Err-clause-cause
returns-in-Err-clause-cause g c = λ (a : Archive) s clean.
    not_own-lost_or _ c.in-Err.fault c.lost_or.ensures (λ e.
    let kept = s.rows (c.due_records_by.ensures.frame.falls clean) (c.in-Err.ensures.seen clean (ap Err e)) in
    c.in-Err.ensures.none clean (ap Err e) kept.tables kept.stored kept.keyed (due_records_fit a _ kept c.args.day s.archive))

pub returns-in-Ok-clause-still : goal.returns-in-Ok-clause-still
returns-in-Ok-clause-still g c =
    still_looked g.S.Store c.args.self.now c.due_records_by.new.conn
    (looks_at g.S.Store c.args.self.now.conn c.due_records_by.new.conn _ c.due_records_by.ensures.frame)

pub returns-in-Err-clause-still : goal.returns-in-Err-clause-still
returns-in-Err-clause-still g c =
    still_looked g.S.Store c.args.self.now c.due_records_by.new.conn
    (looks_at g.S.Store c.args.self.now.conn c.due_records_by.new.conn _ c.due_records_by.ensures.frame)
