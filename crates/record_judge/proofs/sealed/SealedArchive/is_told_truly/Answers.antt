use Rattle.std.proofs.Common.{◌↔◌, IsTrue, sym, subst}
use Rattle.record_history.specs.Replay.{IsTrueOf}
use Rattle.record_history.specs.Views.{deed_view}
use Rattle.record_history.specs.declared.events.Deed.{Deed}
use Rattle.record_judge.specs.Sealed.{archive_view}
use Rattle.record_judge.proofs.sealed.SealedArchive.is_told_truly.Goals as goal

pub returns-in-Destroyed : goal.returns-in-Destroyed
returns-in-Destroyed c = λ kept.
    subst (λ (d : Deed). IsTrue c.has_schedule.result ↔ IsTrueOf (deed_view d) (archive_view c.args.self.now)) (sym c.in-Destroyed.is)
    (c.has_schedule.ensures kept c.in-Destroyed.day)
