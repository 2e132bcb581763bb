use Rattle.std.proofs.Common.{◌≡◌, sym, ap, ◌∙◌, Some, Err, option_map}
use Rattle.std.proofs.lemmas.Result.{IfOk-weaker, IfErr-weaker, MatchResult-from_both}
use Rattle.toml.specs.View.{table_view}
use Rattle.class_plan.specs.Document.{contents_of, document_of, plan_of_text, shown_lists}
use Rattle.class_plan.specs.Entries.{plan_of}
use Rattle.class_plan.proofs.Documents.{document-not_utf8, document-text, text-none, text-shape, text-contents, text-smallest, text-made}
use Rattle.class_plan.proofs.Listable.{contents-listable}
use Rattle.class_plan.proofs.plans.Plan.from_toml.Goals as goal
use Rattle.class_plan.proofs.plans.Plan.from_toml.Goals.{In-Ok-table_from_str, In-Some, then-is_memory, else-is_memory}

-- what the text says, where it is TOML
document : (c : In-Ok-table_from_str) → document_of c.args.text.now ≡ Some (table_view c.in-Ok-table_from_str.table)
document c = document-text _ _ c.in-Ok.ensures.cases.1 c.in-Ok.ensures.cases.0 ∙ c.in-Ok-table_from_str.ensures.ok

file : (c : In-Some) → Some (shown_lists c.in-Some.lists) ≡ contents_of (table_view c.in-Ok-table_from_str.table)
file c = sym (ap (option_map shown_lists) c.in-Some.is) ∙ c.in_ok-lists.ensures

text : (c : In-Some) → plan_of_text c.args.text.now ≡ plan_of (shown_lists c.in-Some.lists)
text c = text-contents c.args.text.now _ _ (document (goal.at.In-Some c).In-Ok-table_from_str) (file c)

pub returns-in_default-clause-refused : goal.returns-in_default-clause-refused
returns-in_default-clause-refused c = λ _. text-none _ (document-not_utf8 _ c.in_default.ensures.cases.0)

pub returns-in_default-clause-smallest : goal.returns-in_default-clause-smallest
returns-in_default-clause-smallest c = λ ne. text-smallest _ _ (returns-in_default-clause-refused c ne)

pub returns-in-Err-clause-refused : goal.returns-in-Err-clause-refused
returns-in-Err-clause-refused c = elim c.if-is_memory.branch [
  | then-is_memory w ↦ λ ne. absurd (ne w.result-is)
  | else-is_memory w ↦ λ _.
      let refused = c.in-Err.ensures.refused (λ m. let t = c.is_memory.ensures.1 m in cc (t, w.if-is_memory.false)) in
      text-none _ (document-text _ _ c.in-Ok.ensures.cases.1 c.in-Ok.ensures.cases.0 ∙ refused) ∙ ap (λ f. Err f) (sym w.result-is)
]

pub returns-in-Err-clause-smallest : goal.returns-in-Err-clause-smallest
returns-in-Err-clause-smallest c = λ ne. text-smallest _ _ (returns-in-Err-clause-refused c ne)

pub plan_from-requires : goal.plan_from-requires
plan_from-requires c = rw c.as_slice.ensures.value (contents-listable _ _ (file (goal.at.plan_from-requires c).In-Some))

pub returns-in-Some-clause-plan : goal.returns-in-Some-clause-plan
returns-in-Some-clause-plan c =
    let at = (goal.at.returns-in-Some-clause-plan c).In-Some in
    IfOk-weaker c.plan_from.result _ _ (λ p e. text at ∙ e) (rw c.as_slice.ensures.value at c.plan_from.ensures.plan)

pub returns-in-Some-clause-refused : goal.returns-in-Some-clause-refused
returns-in-Some-clause-refused c =
    let at = (goal.at.returns-in-Some-clause-refused c).In-Some in
    IfErr-weaker c.plan_from.result _ _ (λ f e ne. text at ∙ e ne) (rw c.as_slice.ensures.value at c.plan_from.ensures.refused)

pub returns-in-Some-clause-smallest : goal.returns-in-Some-clause-smallest
returns-in-Some-clause-smallest c =
    MatchResult-from_both c.plan_from.result _ _
    (IfOk-weaker c.plan_from.result _ _ (λ p e. text-made _ p e) (returns-in-Some-clause-plan c))
    (IfErr-weaker c.plan_from.result _ _ (λ f e ne. text-smallest _ f (e ne)) (returns-in-Some-clause-refused c))

pub returns-clause-refused : goal.returns-clause-refused
returns-clause-refused c = λ _.
    text-shape _ _ (document (goal.at.returns-clause-refused c).In-Ok-table_from_str)
    (sym (ap (option_map shown_lists) c.in-None.is) ∙ c.in_ok-lists.ensures)

pub returns-clause-smallest : goal.returns-clause-smallest
returns-clause-smallest c = λ ne. text-smallest _ _ (returns-clause-refused c ne)
