use Rattle.std.proofs.Common.{◌∙◌, ap, map, sym}
use Rattle.record_store.proofs.DueLemmas.{no_items}
use Rattle.cli_history.specs.AllCases.{Name, case_of, named_view, with_cases}
use Rattle.cli_history.proofs.all_cases.AllCases.add_all.Goals as goal

pub loop-case-preserved : goal.loop-case-preserved
loop-case-preserved c = λ (n : Name).
    ap (with_cases n.items (map named_view c.next.new.self.rest.items)) (c.in_ok-add.ensures n)
    ∙ ap (λ l. with_cases n.items (map named_view l) (case_of c.loop-case.self n)) (sym c.in-Some.ensures.steps.0)
    ∙ c.loop-case.invariant n

pub returns : goal.returns
returns c = λ (n : Name).
    let rest = c.loop-case.case-iterator.rest in
    ap (λ l. with_cases n.items (map named_view l) (case_of c.loop-case.self n))
    (sym (no_items rest.items rest.len rest.ok.0 c.in-None.ensures.steps.0)) ∙ c.loop-case.invariant n
