use Rattle.std.proofs.Common.{map, ap, refl, subst, rules, ◌∙◌}
use Rattle.class_plan.specs.Plans.{first_plan, IsPlan}
use Rattle.record_tables.specs.CodeRows.{class_entry_of, rule_of}
use Rattle.record_rows.specs.Rules as rows
use Rattle.record_adoption.proofs.AdoptSettled.{leaves_laid}
use Rattle.record_store.proofs.StoreLemmas.{stands_laid}
use Rattle.record_store.proofs.store.Store.create.Goals as goal

pub returns-in-Ok-lay-clause-ok : goal.returns-in-Ok-lay-clause-ok
returns-in-Ok-lay-clause-ok g c clean empty =
    let plan : IsPlan c.in-Ok.plan = search rules in
    let is : IsPlan first_plan = subst IsPlan c.in-Ok.ensures plan in
    stands_laid g.S.Store c.args.conn _ (map rule_of c.in-Ok-rules_of.rules.items) (map class_entry_of c.in-Ok-classes_of.classes.items) is
    (c.in-Ok-rules_of.ensures ∙ (λ i. rows.rules_of (c.in-Ok.ensures i))) (c.in-Ok-classes_of.ensures ∙ (λ i. rows.classes_of (c.in-Ok.ensures i)))
    c.lay.ensures.idle c.in-Ok.ensures refl c.new-held.ensures c.new-others.ensures empty
    (λ _. rw (c.as_slice.ensures.value, c.as_slice-2.ensures.value) at (c.in-Ok-lay.ensures.ok clean))

pub returns-in-Ok-lay-clause-crash : goal.returns-in-Ok-lay-clause-crash
returns-in-Ok-lay-clause-crash g c =
    leaves_laid g.S.Store c.args.conn c.lay.new.conn (map rule_of c.as_slice.result.now) (map class_entry_of c.as_slice-2.result.now)
    (ap (map rule_of) c.as_slice.ensures.value ∙ c.in-Ok-rules_of.ensures
    ∙ (λ i. rows.rules_of (c.in-Ok.ensures i))) (ap (map class_entry_of) c.as_slice-2.ensures.value
    ∙ c.in-Ok-classes_of.ensures ∙ (λ i. rows.classes_of (c.in-Ok.ensures i)))
    c.lay.ensures.crash

pub returns-in-Err-clause-crash_refused : goal.returns-in-Err-clause-crash_refused
returns-in-Err-clause-crash_refused g c =
    leaves_laid g.S.Store c.args.conn c.lay.new.conn (map rule_of c.as_slice.result.now) (map class_entry_of c.as_slice-2.result.now)
    (ap (map rule_of) c.as_slice.ensures.value ∙ c.in-Ok-rules_of.ensures
    ∙ (λ i. rows.rules_of (c.in-Ok.ensures i))) (ap (map class_entry_of) c.as_slice-2.ensures.value
    ∙ c.in-Ok-classes_of.ensures ∙ (λ i. rows.classes_of (c.in-Ok.ensures i)))
    c.lay.ensures.crash
