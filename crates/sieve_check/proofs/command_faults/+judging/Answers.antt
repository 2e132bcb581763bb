use Rattle.std.proofs.Common.{◌≡◌, ℕ, Option, ap, ◌∙◌, map, arith}
use Rattle.std.proofs.lemmas.List.{drop_all}
use Rattle.sieve_syntax.specs.declared.tree.Test.{out-Test}
use Rattle.sieve_syntax.specs.declared.tree.TestList.{TestList, out-TestList}
use Rattle.sieve_check.specs.Lookup.{test_named}
use Rattle.sieve_check.specs.Pieces.{pieces}
use Rattle.sieve_check.specs.Walk.{first_breach}
use Rattle.std.specs.Option.{option_map}
use Rattle.sieve_syntax.specs.View.{test_of, inner_of}
use Rattle.sieve_check.specs.Context.{has_of}
use Rattle.sieve_check.specs.Faults.{number_of}
use Rattle.sieve_check.specs.Rules.{lesser, least, form_rules, test_breaches, inner_breaches}
use Rattle.sieve_check.specs.Views.{form_view, test_view}
use Rattle.sieve_check.proofs.Judging.{test_least, broken_by_each, listed_least, judge_turn, judge_done}
use Rattle.sieve_syntax.proofs.Views.{test_of-fields, inner_of-Listed}
use Rattle.sieve_check.proofs.command_faults.+judging.Goals as goal

pub test_fault-returns-in-Some : goal.test_fault-returns-in-Some
test_fault-returns-in-Some t c =
    let node = out-Test c.args.test.now in
    let named : test_named c.as_slice.result.now ≡ test_named node.name = ap test_named c.as_slice.ensures in
    let whole = test_least (has_of c.args.named) node.name node.arguments (inner_of node.tests)
    (test_view c.in-Some.row.now) (c.in-Some.ensures ∙ named) in
    rw (test_of-fields c.args.test.now) (c.lesser.ensures
    ∙ ap (λ (o : Option ℕ). lesser o (option_map number_of c.tests_fault.result)) c.form_fault-own.ensures
    ∙ ap (λ (o : Option ℕ).
    lesser (first_breach (form_rules (has_of c.args.named) (form_view c.in-Some.row.now.form)
    (pieces (form_view c.in-Some.row.now.form).tags node.arguments) (inner_of node.tests))) o) c.tests_fault.ensures
    ∙ whole)

pub tests_fault-loop-test-init : goal.tests_fault-loop-test-init
tests_fault-loop-test-init t c =
    let list = out-TestList c.in-Listed.list.value in
    let first : option_map number_of c.test_fault-fault.result
    ≡ least (test_breaches (has_of c.args.named) (test_of list.first)) = c.test_fault-fault.ensures
    ∙ ap (λ (l : TestList). least (test_breaches (has_of c.args.named) (test_of (out-TestList l).first)))
    c.deref-in-Listed.ensures in
    rw (
      c.as_slice-test-items.ensures.value,
      c.deref-in-Listed-2.ensures,
      c.in-Listed.is,
      inner_of-Listed c.in-Listed.list,
    ) (ap (λ (o : Option ℕ).
    lesser o (least (broken_by_each (has_of c.args.named) (map test_of list.others.items)))) first
    ∙ listed_least (has_of c.args.named) (test_of list.first) (map test_of list.others.items))

pub tests_fault-loop-test-preserved : goal.tests_fault-loop-test-preserved
tests_fault-loop-test-preserved t c =
    judge_turn (has_of c.args.named) c.as_slice-test-items.result.now c.loop-test.test-index c.test-item.result
    (option_map number_of c.loop-test.fault) (option_map number_of c.test_fault-in-loop-test.result)
    (option_map number_of c.lesser-fault.result)
    (least (inner_breaches (has_of c.args.named) (inner_of c.args.tests.now))) (omega arith) c.test-item.is
    c.loop-test.invariant c.test_fault-in-loop-test.ensures c.lesser-fault.ensures

pub tests_fault-returns-after-loop-test : goal.tests_fault-returns-after-loop-test
tests_fault-returns-after-loop-test t c =
    judge_done (has_of c.args.named) (option_map number_of c.loop-test.fault)
    (least (inner_breaches (has_of c.args.named) (inner_of c.args.tests.now)))
    (rw (drop_all c.loop-test.test-index c.as_slice-test-items.result.now (omega arith)) at c.loop-test.invariant)
