use Rattle.std.proofs.Common.{◌≡◌, ◌∙◌, ℕ, List, refl, sym, ap}
use Rattle.std.specs.Option.{unwrap_or}
use Rattle.class_plan.specs.Plans.{schedule_at}
use Rattle.class_plan.specs.declared.schedules.Schedule.TheVariants.{Permanent}
use Rattle.record_archive.specs.Archive.{Archive}
use Rattle.record_tables.specs.CodeRows.{record_of}
use Rattle.record_noted.proofs.ReadingLemmas.{lines_read, passed_with}
use Rattle.record_noted.proofs.store.NotedStore.schedule_of.Goals as goal

pub returns-in_err-record-clause-reads : goal.returns-in_err-record-clause-reads
returns-in_err-record-clause-reads g c =
    let new = record c.args.self.now { store = c.record_at.new.self } in
    passed_with g.S.Store c.args.self.now new c.from_residual.result c.in_err-record.field-0.0 _ _ c.from_residual.ensures.0
    c.from_residual.ensures.1
    (λ (a : Archive) (ls : List (List ℕ)) s. (c.in_err-record.ensures.tells a s.stands).1)
    (λ (a : Archive) (ls : List (List ℕ)) s.
    lines_read g.S.Store c.args.self.now new refl refl c.record_at.ensures.behaves.falls c.record_at.ensures.still a ls s
    (c.in_err-record.ensures.tells a s.stands).0)
    c.record_at.ensures.behaves.falls c.record_at.ensures.crash

pub returns-clause-reads : goal.returns-clause-reads
returns-clause-reads g c = record {
  tells = λ (a : Archive) (ls : List (List ℕ)) s clean.
      let told = c.in_ok-record.ensures.tells a s.stands in
      let plan : c.plan.result.now ≡ a.plan = c.plan.ensures.value ∙ told.0.plan in (
        record_of c.in_ok-record.record,
        told.1 clean,
        sym (c.unwrap_or.ensures ∙ ap (λ o. unwrap_or o Permanent)
            (c.schedule_of-schedule.ensures.schedule ∙ ap (schedule_at c.plan.result.now) c.as_slice.ensures.value
            ∙ ap (λ p. schedule_at p c.in_ok-record.record.path.items) plan)),
      );
  lines = λ (a : Archive) (ls : List (List ℕ)) s.
      lines_read g.S.Store c.args.self.now (record c.args.self.now { store = c.record_at.new.self }) refl refl
      c.record_at.ensures.behaves.falls c.record_at.ensures.still a ls s (c.in_ok-record.ensures.tells a s.stands).0;
  falls = c.record_at.ensures.behaves.falls;
  crash = c.record_at.ensures.crash;
}

pub returns-in_err-record-clause-lines : goal.returns-in_err-record-clause-lines
returns-in_err-record-clause-lines g c = λ (a : Archive) (ls : List (List ℕ)) s.
    lines_read g.S.Store c.args.self.now (record c.args.self.now { store = c.record_at.new.self }) refl refl
    c.record_at.ensures.behaves.falls c.record_at.ensures.still a ls s (c.in_err-record.ensures.tells a s.stands).0

pub returns-clause-lines : goal.returns-clause-lines
returns-clause-lines g c = λ (a : Archive) (ls : List (List ℕ)) s.
    lines_read g.S.Store c.args.self.now (record c.args.self.now { store = c.record_at.new.self }) refl refl
    c.record_at.ensures.behaves.falls c.record_at.ensures.still a ls s (c.in_ok-record.ensures.tells a s.stands).0
