use Rattle.std.proofs.Common.{map, subst, sym, option_map}
use Rattle.record_history.specs.Events as plain
use Rattle.record_history.specs.Views.{deed_view, filing_view, seal_view}
use Rattle.record_judge.specs.Sealed.{IsDone, archive_view}
use Rattle.record_judge.proofs.sealed.SealedArchive.do_again.Goals as goal

pub returns-in-Captured-clause-done : goal.returns-in-Captured-clause-done
returns-in-Captured-clause-done c = λ kept.
    let d = c.in-Captured in
    let old = archive_view c.args.self.now in
    let new = archive_view c.capture.new.self in
    let filing = option_map filing_view d.filing in
    subst (λ deed. IsDone (deed_view deed) old new c.capture.result) (sym d.is)
    (subst (λ ps. IsDone (plain.Captured d.first (seal_view d.seal) d.day filing (map (λ p. p.now) ps)) old new c.capture.result)
    c.as_slice.ensures.value (c.capture.ensures.done kept filing))

pub returns-in-Destroyed-clause-done : goal.returns-in-Destroyed-clause-done
returns-in-Destroyed-clause-done c = λ kept.
    subst (λ deed. IsDone (deed_view deed) (archive_view c.args.self.now) (archive_view c.destroy.new.self) c.destroy.result)
    (sym c.in-Destroyed.is) (c.destroy.ensures.done kept c.in-Destroyed.schedule)
