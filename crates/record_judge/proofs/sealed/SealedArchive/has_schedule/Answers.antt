use Rattle.std.proofs.Common.{◌∙◌, sym, ap}
use Rattle.class_plan.specs.Plans.{schedule_at}
use Rattle.record_judge.specs.Sealed.{archive_view, record_view}
use Rattle.record_judge.proofs.TruthLemmas.{told_of_one}
use Rattle.record_judge.proofs.sealed.SealedArchive.has_schedule.Goals as goal

pub returns-in-Some : goal.returns-in-Some
returns-in-Some c = λ kept day.
    let found = sym (c.in-Some.ensures kept) in
    let told = c.schedule_of.ensures.schedule ∙ ap (schedule_at c.args.self.now.plan) c.as_slice.ensures.value in (
      λ yes. told_of_one (archive_view c.args.self.now) c.args.number day c.args.schedule (record_view c.in-Some.record.now) found
          (sym told ∙ c.is_same_own.ensures.0 yes),
      λ so. c.is_same_own.ensures.1 (told ∙ so (record_view c.in-Some.record.now) found),
    )
