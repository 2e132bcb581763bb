use Rattle.std.proofs.Common.{subst}
use Rattle.jiff.specs.Words.{epoch_day}
use Rattle.record_tables.specs.CodeRows.{record_of}
use Rattle.record_archive.specs.Archive as archive
use Rattle.record_archive.specs.Archive.{Archive}
use Rattle.record_store.specs.Companions.{LeavesBoth}
use Rattle.record_store.specs.Destruction.{IsUnheld}
use Rattle.record_store.proofs.AllowedLemmas.{brought_allowed, leaves_allowed}
use Rattle.record_store.proofs.store.Store.destroy_with.Given.{Over}
use Rattle.record_store.proofs.store.Store.destroy_with.Goals.{After-remove_record}
use Rattle.record_store.proofs.store.Store.destroy_with.Goals as goal

left : (g : Over) (c : After-remove_record g) → LeavesBoth g.S.Store (g.D.Companion.needs c.args.companion)
    (g.D.Companion.brings c.args.companion) c.args.self.now c.remove_record.new.self (λ a. archive.destroy_on a c.args.number (epoch_day c.args.day))
left g c =
    let n = c.args.number in
    let r = record_of c.in_ok-record.record in
    subst (λ k. LeavesBoth g.S.Store (g.D.Companion.needs c.args.companion) (g.D.Companion.brings c.args.companion)
    c.args.self.now c.remove_record.new.self (λ (a : Archive). archive.destroy_by a n k (archive.record_at a n))) c.number_from_1970.ensures
    (leaves_allowed g.S.Store (g.D.Companion.needs c.args.companion) (g.D.Companion.brings c.args.companion) c.args.self.now
    c.judge_destruction.new.self c.remove_record.new.self (λ (a : Archive).
    archive.destroy_by a n c.number_from_1970.result (archive.record_at a n)) (λ (a : Archive).
    IsUnheld a n r) (λ (a : Archive). archive.without a r)
    c.in_ok-record.ensures.tells c.judge_destruction.ensures.still c.judge_destruction.ensures.behaves.falls
    c.judge_destruction.ensures.crash c.in_ok-record.ensures.behaves.open c.remove_record.ensures.crash)

pub returns-clause-brought : goal.returns-clause-brought
returns-clause-brought g c =
    let n = c.args.number in
    let r = record_of c.in_ok-record.record in
    brought_allowed g.S.Store (g.D.Companion.needs c.args.companion) (g.D.Companion.brings c.args.companion) c.args.self.now
    c.judge_destruction.new.self c.remove_record.new.self (λ (a : Archive).
    archive.destroy_by a n c.number_from_1970.result (archive.record_at a n)) (λ (a : Archive).
    IsUnheld a n r) (λ (a : Archive). archive.without a r)
    c.in_ok-record.ensures.tells c.judge_destruction.ensures.still c.judge_destruction.ensures.behaves.falls
    c.in_ok-remove_record.ensures.brought c.remove_record.ensures.behaves.falls c.in_ok-record.ensures.behaves.open

pub returns-clause-crash : goal.returns-clause-crash
returns-clause-crash g c = left g (goal.at.returns-clause-crash g c).After-remove_record

pub returns-in_err-remove_record-clause-crash : goal.returns-in_err-remove_record-clause-crash
returns-in_err-remove_record-clause-crash g c = left g (goal.at.returns-in_err-remove_record-clause-crash g c).After-remove_record
