use Rattle.record_archive.specs.Archive.{Archive}
use Rattle.record_store.proofs.CommandLemmas.{leaves_then, still_then}
use Rattle.record_store.proofs.store.Store.judge_release.Goals as goal

pub returns-in_err-has_hold-clause-crash : goal.returns-in_err-has_hold-clause-crash
returns-in_err-has_hold-clause-crash g c =
    leaves_then g.S.Store c.args.self.now c.record_at.new.self c.has_hold.new.self (λ (a : Archive) s.
    (c.in_ok-_record.ensures.tells a s).0) c.record_at.ensures.crash c.in_ok-_record.ensures.behaves.open
    c.has_hold.ensures.crash

pub returns-then-branch-clause-crash : goal.returns-then-branch-clause-crash
returns-then-branch-clause-crash g c =
    leaves_then g.S.Store c.args.self.now c.record_at.new.self c.has_hold.new.self (λ (a : Archive) s.
    (c.in_ok-_record.ensures.tells a s).0) c.record_at.ensures.crash c.in_ok-_record.ensures.behaves.open
    c.has_hold.ensures.crash

pub returns-clause-crash : goal.returns-clause-crash
returns-clause-crash g c =
    leaves_then g.S.Store c.args.self.now c.record_at.new.self c.has_hold.new.self (λ (a : Archive) s.
    (c.in_ok-_record.ensures.tells a s).0) c.record_at.ensures.crash c.in_ok-_record.ensures.behaves.open
    c.has_hold.ensures.crash

pub returns-in_err-has_hold-clause-still : goal.returns-in_err-has_hold-clause-still
returns-in_err-has_hold-clause-still g c =
    still_then g.S.Store c.args.self.now c.record_at.new.self c.has_hold.new.self (λ (a : Archive) s.
    (c.in_ok-_record.ensures.tells a s).0) c.has_hold.ensures.behaves.falls c.record_at.ensures.still c.has_hold.ensures.still

pub returns-then-branch-clause-still : goal.returns-then-branch-clause-still
returns-then-branch-clause-still g c =
    still_then g.S.Store c.args.self.now c.record_at.new.self c.has_hold.new.self (λ (a : Archive) s.
    (c.in_ok-_record.ensures.tells a s).0) c.has_hold.ensures.behaves.falls c.record_at.ensures.still c.has_hold.ensures.still

pub returns-clause-still : goal.returns-clause-still
returns-clause-still g c =
    still_then g.S.Store c.args.self.now c.record_at.new.self c.has_hold.new.self (λ (a : Archive) s.
    (c.in_ok-_record.ensures.tells a s).0) c.has_hold.ensures.behaves.falls c.record_at.ensures.still c.has_hold.ensures.still
