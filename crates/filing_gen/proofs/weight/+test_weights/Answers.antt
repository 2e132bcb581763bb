use Rattle.std.proofs.Common.{◌≡◌, ◌+◌, List, map, arith, ap, sym, ◌∙◌}
use Rattle.sieve_syntax.specs.Tree.{TestTree}
use Rattle.sieve_syntax.specs.View.{test_of}
use Rattle.sieve_syntax.specs.declared.tree.TestList.{out-TestList}
use Rattle.sieve_meaning.specs.Reading.{test_in}
use Rattle.sieve_meaning.specs.Weight.{test_weight}
use Rattle.sieve_syntax.proofs.Views.{inner_of-Listed}
use Rattle.filing_gen.proofs.WeightLemmas.{sum_of, weight-listed}
use Rattle.filing_gen.proofs.weight.+test_weights.Goals as goal

pub weigh_tests-loop-test-init : goal.weigh_tests-loop-test-init
weigh_tests-loop-test-init t c =
    let list = out-TestList c.in-Listed.list.value in
    let first : c.in_ok-rest-in-Listed.rest + test_weight (test_in (test_of list.first)) ≡ c.args.left =
    rw (← c.deref-in-Listed.ensures) c.in_ok-rest-in-Listed.ensures in
    let others : List TestTree = map test_of list.others.items in
    let sums : c.args.left + sum_of others
    ≡ c.in_ok-rest-in-Listed.rest + (test_weight (test_in (test_of list.first)) + sum_of others) =
    omega (arith, first) in
    rw (
      c.as_slice-test-items.ensures.value,
      c.deref-in-Listed-2.ensures,
      c.in-Listed.is,
      inner_of-Listed c.in-Listed.list,
    ) (sums
    ∙ sym (ap (λ n. c.in_ok-rest-in-Listed.rest + n) (weight-listed (test_of list.first) others)))
