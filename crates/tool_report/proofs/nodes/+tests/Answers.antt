use Rattle.std.proofs.Common.{◌≡◌, ◌++◌, ◌+◌, List, length, map, drop, subst, sym, ap, ◌∙◌}
use Rattle.sieve_syntax.specs.Tree.{listed_tests}
use Rattle.sieve_syntax.specs.View.{test_of, row_of, inner_of}
use Rattle.sieve_syntax.proofs.Views.{inner_of-Listed}
use Rattle.sieve_syntax.specs.declared.tree.Test.{Test}
use Rattle.sieve_syntax.specs.declared.tree.TestList.{TestList, out-TestList}
use Rattle.tool_report.specs.Nodes.{node_entries, test_entries, row_entries, inner_entries}
use Rattle.tool_report.proofs.NodeLemmas.{row_begins, followed_more, next_of}
use Rattle.tool_report.proofs.nodes.+tests.Goals as goal

pub add_tests-loop-test-init : goal.add_tests-loop-test-init
add_tests-loop-test-init t c =
    let there = c.in-Listed.list.value in
    let first = (out-TestList c.deref-in-Listed.result.now).first in
    let items : c.as_slice-test-items.result.now ≡ (out-TestList there).others.items =
    c.as_slice-test-items.ensures.value ∙ ap (λ (l : TestList). (out-TestList l).others.items) c.deref-in-Listed-2.ensures in
    let is : inner_of c.args.tests.now ≡ listed_tests (test_of first) (row_of (map test_of c.as_slice-test-items.result.now)) =
    ap inner_of c.in-Listed.is ∙ inner_of-Listed c.in-Listed.list
    ∙ ap (λ (l : TestList). listed_tests (test_of (out-TestList l).first) (row_of (map test_of (out-TestList there).others.items)))
    (sym c.deref-in-Listed.ensures)
    ∙ ap (λ (ts : List Test). listed_tests (test_of first) (row_of (map test_of ts))) (sym items) in
    row_begins c.args.nodes.now.items c.add_test-in-Listed.new.nodes.items (test_of first)
    (row_of (map test_of c.as_slice-test-items.result.now)) (inner_of c.args.tests.now) is c.in_ok-add_test-in-Listed.ensures

pub add_tests-loop-test-preserved : goal.add_tests-loop-test-preserved
add_tests-loop-test-preserved t c =
    let items = c.as_slice-test-items.result.now in
    let k = c.loop-test.test-index in
    let nodes = c.loop-test.nodes.items in
    let next = next_of items k c.test-item.result c.loop-test-test.true c.test-item.is in
    let before = subst (λ (ts : List Test). node_entries nodes ++ row_entries (row_of (map test_of ts)) (length nodes)
    ≡ node_entries c.args.nodes.now.items ++ inner_entries (inner_of c.args.tests.now) (length c.args.nodes.now.items)) next c.loop-test.invariant in
    followed_more nodes c.add_test-in-loop-test.new.nodes.items _ (test_entries (test_of c.test-item.result) (length nodes))
    (row_entries (row_of (map test_of (drop (k + 1) items)))) c.in_ok-add_test-in-Listed-2.ensures before
