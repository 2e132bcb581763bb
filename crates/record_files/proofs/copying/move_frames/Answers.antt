use Rattle.std.proofs.Common.{ℕ, IsTrue, subst, ◌∙◌}
use Rattle.sqlite_wal.specs.Log.{image, state}
use Rattle.sqlite_wal.specs.Recovery.{AddsNothing, Pages, Recovers}
use Rattle.sqlite_wal.proofs.RecoveryLemmas.{RecoversAs-from}
use Rattle.sqlite_wal.proofs.StateLemmas.{AddsNothing-trans, open_from}
use Rattle.record_files.specs.Copying.{without_log}
use Rattle.record_files.proofs.CopyingLemmas.{on_ok_both, recovers_alone}
use Rattle.record_files.proofs.copying.move_frames.Goals as goal

pub returns-clause-same : goal.returns-clause-same
returns-clause-same g c =
    let mid = c.recover.new.self in
    let last = c.finish.new.self in
    AddsNothing-trans _ _ _ _ c.recover.ensures.crash
    (subst (λ n. AddsNothing n (state mid).may_leave (state last).may_leave) c.recover.ensures.size c.finish.ensures.keeps.crash)

pub returns-clause-alone : goal.returns-clause-alone
returns-clause-alone g c =
    let first = c.args.log.now in
    let mid = c.recover.new.self in
    let last = c.finish.new.self in
    let kept = c.finish.ensures.keeps in
    on_ok_both c.finish.result c.finish.ensures.open c.finish.ensures.empty (λ ready empty clean left may.
    let on : IsTrue (state last).is_open = open_from (state last) ready clean in
    let found = c.in_ok-recover.ensures.found (kept.stays.clean clean) in
    let sized = subst (λ (n : ℕ). Recovers n (without_log left) (state last).committed) (kept.stays.size ∙ c.recover.ensures.size)
    (recovers_alone last on empty left may) in
    RecoversAs-from (state first).page_size (image first) (without_log left) (state mid).committed found
    (subst (λ (p : Pages). Recovers (state first).page_size (without_log left) p) (kept.committed on) sized))
