use Rattle.record_tables.specs.CodeRows.{record_of}
use Rattle.record_archive.specs.Archive.{Archive}
use Rattle.record_store.proofs.CommandLemmas.{still_then}
use Rattle.record_store.proofs.MessageLemmas.{live_is_read}
use Rattle.record_store.proofs.store.Store.message.Goals as goal

pub returns-clause-cause : goal.returns-clause-cause
returns-clause-cause g c = λ (a : Archive) s clean.
    let looked = c.in_ok-body.ensures.tells a s in
    let found = c.in_ok-record.ensures.tells a looked.0 in
    let told = looked.1 (c.record_at.ensures.behaves.falls clean) in
    absurd (live_is_read a c.args.number (record_of c.in_ok-record.record) s.archive (found.1 clean) c.if-record.false
    (rw c.in_default.is at told))

pub returns-clause-still : goal.returns-clause-still
returns-clause-still g c =
    still_then g.S.Store c.args.self.now c.live_body.new.self c.record_at.new.self (λ (a : Archive) s.
    (c.in_ok-body.ensures.tells a s).0) c.record_at.ensures.behaves.falls c.live_body.ensures.still c.record_at.ensures.still

pub returns-then-record-clause-still : goal.returns-then-record-clause-still
returns-then-record-clause-still g c =
    still_then g.S.Store c.args.self.now c.live_body.new.self c.record_at.new.self (λ (a : Archive) s.
    (c.in_ok-body.ensures.tells a s).0) c.record_at.ensures.behaves.falls c.live_body.ensures.still c.record_at.ensures.still

pub returns-in_err-record-clause-still : goal.returns-in_err-record-clause-still
returns-in_err-record-clause-still g c =
    still_then g.S.Store c.args.self.now c.live_body.new.self c.record_at.new.self (λ (a : Archive) s.
    (c.in_ok-body.ensures.tells a s).0) c.record_at.ensures.behaves.falls c.live_body.ensures.still c.record_at.ensures.still
