use Rattle.std.proofs.Common.{◌≡◌, true, false, map, sym, ap, ◌∙◌}
use Rattle.sieve_syntax.specs.View.{test_of}
use Rattle.sieve_syntax.specs.declared.tree.TestList.{TestList, out-TestList}
use Rattle.sieve_syntax.proofs.Views.{inner_of-Listed}
use Rattle.sieve_meaning.specs.Reading.{test_in}
use Rattle.sieve_meaning.specs.Truth.{truth}
use Rattle.sieve_evaluator.specs.Case.{facts_of}
use Rattle.sieve_evaluator.proofs.TruthLemmas.{all_true-others, some_true-others}
use Rattle.sieve_evaluator.proofs.truth.+truth.Goals as goal

pub are_all_true-loop-test-init : goal.are_all_true-loop-test-init
are_all_true-loop-test-init g t c =
    let list = out-TestList c.in-Listed.list.value in
    let facts = facts_of c.args.case.now in
    let first : truth facts (test_in (test_of list.first)) ≡ true = sym (c.is_true-in-Listed.ensures
    ∙ ap (λ (l : TestList). truth facts (test_in (test_of (out-TestList l).first))) c.deref-in-Listed.ensures)
    ∙ c.if-not-is_true.false in
    rw (
      c.as_slice-test-items.ensures.value,
      c.deref-in-Listed-2.ensures,
      c.in-Listed.is,
      inner_of-Listed c.in-Listed.list,
    ) (all_true-others facts (test_of list.first) (map test_of list.others.items)
    first)

pub is_some_true-loop-test-init : goal.is_some_true-loop-test-init
is_some_true-loop-test-init g t c =
    let list = out-TestList c.in-Listed.list.value in
    let facts = facts_of c.args.case.now in
    let first : truth facts (test_in (test_of list.first)) ≡ false = sym (c.is_true-in-Listed.ensures
    ∙ ap (λ (l : TestList). truth facts (test_in (test_of (out-TestList l).first))) c.deref-in-Listed.ensures)
    ∙ c.if-is_true.false in
    rw (
      c.as_slice-test-items.ensures.value,
      c.deref-in-Listed-2.ensures,
      c.in-Listed.is,
      inner_of-Listed c.in-Listed.list,
    ) (some_true-others facts (test_of list.first) (map test_of list.others.items)
    first)
