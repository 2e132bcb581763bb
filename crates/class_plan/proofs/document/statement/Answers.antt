use Rattle.std.proofs.Common.{◌∙◌, Some, Bor, List, ℕ, option_map, codes, sym, ap}
use Rattle.toml.proofs.Views.{table_get}
use Rattle.class_plan.proofs.Steps.{statement-text, statement-other}
use Rattle.class_plan.proofs.document.statement.Goals as goal

pub returns-in-Some-as_str : goal.returns-in-Some-as_str
returns-in-Some-as_str c =
    let found = table_get c.get.result (codes "schedule") c.args.table.now.entries c.get.ensures.value in
    ap (λ s. Some s) c.stated_by.ensures
    ∙ statement-text _ _ _ (rw c.in-Some.is at found)
    (sym (ap (option_map (λ (s : Bor (List ℕ)). s.now)) c.in-Some-as_str.is) ∙ c.as_str.ensures)

pub returns-in-None-as_str : goal.returns-in-None-as_str
returns-in-None-as_str c =
    let found = table_get c.get.result (codes "schedule") c.args.table.now.entries c.get.ensures.value in
    statement-other _ _ (rw c.in-Some.is at found) (sym (ap (option_map (λ (s : Bor (List ℕ)). s.now)) c.in-None-as_str.is) ∙ c.as_str.ensures)

pub returns-in-None : goal.returns-in-None
returns-in-None c =
    let found = table_get c.get.result (codes "schedule") c.args.table.now.entries c.get.ensures.value in
    rw (← rw c.in-None.is at found)
