use Rattle.std.proofs.Common.{◌≡◌, ◌∙◌, ap, map, sym, subst, Ok, rules}
use Rattle.sqlite.specs.State.{HasCleanDisk}
use Rattle.sqlite.specs.Held.{state}
use Rattle.record_tables.specs.CodeRows.{due_of, record_of}
use Rattle.record_archive.specs.Archive as archive
use Rattle.record_archive.specs.Archive.{Archive}
use Rattle.record_adoption.specs.Faults.{AreInOrder}
use Rattle.record_adoption.specs.Keeping.{dues_in}
use Rattle.record_adoption.proofs.PlanDays.{archive_in_order}
use Rattle.record_store.specs.Revisions.{IsRevision, with_plan}
use Rattle.record_store.specs.Companions.{LeavesBoth}
use Rattle.record_store.specs.Stores.{StandsFor}
use Rattle.record_store.proofs.AllowedLemmas.{obeys_allowed, brought_allowed, leaves_allowed}
use Rattle.record_store.proofs.Causes.{passed_cause}
use Rattle.record_store.proofs.ReviseLemmas.{judged_revision}
use Rattle.record_store.proofs.store.Store.revise_with.Given.{Over}
use Rattle.record_store.proofs.store.Store.revise_with.Goals.{After-place_plan}
use Rattle.record_store.proofs.store.Store.revise_with.Goals as goal

judged : (g : Over) (c : After-place_plan g) → (a : Archive) → StandsFor g.S.Store c.args.self.now a
    → StandsFor g.S.Store c.all_records.new.self a × (HasCleanDisk (state g.S.Store c.all_records.new.self.conn)
    → IsRevision a c.in_ok-kept.kept (map due_of c.as_slice-2.result.now) × (archive.revise a c.args.plan ≡ Ok (with_plan a c.in_ok-kept.kept)))
judged g c =
    judged_revision g.S.Store c.args.self.now c.all_records.new.self c.args.plan c.in_ok-kept.kept (map record_of c.in_ok-rows.rows.items)
    (map due_of c.as_slice-2.result.now) c.in_ok-kept.ensures.judged.0 c.in_ok-kept.ensures.judged.1
    (ap (map due_of) c.as_slice-2.ensures.value ∙ c.in_ok-dues.ensures.rows
    ∙ ap (λ l. dues_in c.in_ok-kept.kept (map record_of l)) c.as_slice.ensures.value) c.in_ok-rows.ensures.tells

left : (g : Over) (c : After-place_plan g) → LeavesBoth g.S.Store (g.D.Companion.needs c.args.companion) (g.D.Companion.brings c.args.companion)
    c.args.self.now c.place_plan.new.self (λ a. archive.revise a c.args.plan)
left g c = λ (a : Archive) s.
    leaves_allowed g.S.Store (g.D.Companion.needs c.args.companion) (g.D.Companion.brings c.args.companion) c.args.self.now c.all_records.new.self
    c.place_plan.new.self (λ (b : Archive). archive.revise b c.args.plan)
    (λ (b : Archive). IsRevision b c.in_ok-kept.kept (map due_of c.as_slice-2.result.now)) (λ (b : Archive). with_plan b c.in_ok-kept.kept)
    (judged g c) c.all_records.ensures.still c.all_records.ensures.falls c.all_records.ensures.crash (c.in_ok-rows.ensures.open a s)
    c.place_plan.ensures.crash a s

pub returns-clause-obeys : goal.returns-clause-obeys
returns-clause-obeys g c =
    let at = (goal.at.returns-clause-obeys g c).After-place_plan in
    obeys_allowed g.S.Store (g.D.Companion.needs c.args.companion) (g.D.Companion.brings c.args.companion) c.args.self.now c.all_records.new.self
    c.place_plan.new.self
    (λ (a : Archive). archive.revise a c.args.plan) (λ (a : Archive). IsRevision a c.in_ok-kept.kept (map due_of c.as_slice-2.result.now))
    (λ (a : Archive). with_plan a c.in_ok-kept.kept) (judged g at) c.all_records.ensures.still c.all_records.ensures.falls
    c.in_ok-place_plan.ensures.ok c.place_plan.ensures.behaves.falls

pub returns-clause-brought : goal.returns-clause-brought
returns-clause-brought g c = λ (a : Archive) s.
    let at = (goal.at.returns-clause-brought g c).After-place_plan in
    brought_allowed g.S.Store (g.D.Companion.needs c.args.companion) (g.D.Companion.brings c.args.companion) c.args.self.now
    c.all_records.new.self c.place_plan.new.self
    (λ (a : Archive). archive.revise a c.args.plan) (λ (a : Archive). IsRevision a c.in_ok-kept.kept (map due_of c.as_slice-2.result.now))
    (λ (a : Archive). with_plan a c.in_ok-kept.kept) (judged g at) c.all_records.ensures.still c.all_records.ensures.falls
    c.in_ok-place_plan.ensures.brought c.place_plan.ensures.behaves.falls (c.in_ok-rows.ensures.open a s) a s

pub returns-clause-crash : goal.returns-clause-crash
returns-clause-crash g c = left g (goal.at.returns-clause-crash g c).After-place_plan

pub returns-in_err-place_plan-clause-crash : goal.returns-in_err-place_plan-clause-crash
returns-in_err-place_plan-clause-crash g c = left g (goal.at.returns-in_err-place_plan-clause-crash g c).After-place_plan

pub returns-in_err-dues-clause-behaves : goal.returns-in_err-dues-clause-behaves
returns-in_err-dues-clause-behaves g c = record {
  falls = search rules;
  cause = passed_cause g.S.Store c.args.self.now c.all_records.new.self c.from_residual-in_err-dues.result
      c.in_err-dues.field-0.0 c.from_residual-in_err-dues.ensures.1 (λ (a : Archive) s clean.
      c.in_err-dues.ensures.lost (subst AreInOrder (sym (ap (map record_of) c.as_slice.ensures.value
      ∙ (c.in_ok-rows.ensures.tells a s).1 clean)) (archive_in_order a s.archive)));
  «open» = search rules;
}
