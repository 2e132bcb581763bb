use Rattle.std.proofs.Common.{◌≡◌, map}
use Rattle.cli_history.specs.AllCases.{Name, case_of, named_view, with_cases}
use Rattle.cli_history.proofs.all_cases.AllCases.add_all.Given as goal

abbrev pub invariant-loop-case : goal.invariant-loop-case
invariant-loop-case l = (n : Name) → with_cases n.items (map named_view l.case-iterator.rest.items) (case_of l.self n)
    ≡ with_cases n.items (map named_view l.fn.cases.items) (case_of l.fn.self n)
