use Rattle.std.proofs.Common.{◌≡◌, ◌++◌, drop, length, map}
use Rattle.sieve_syntax.specs.View.{test_of, row_of, inner_of}
use Rattle.tool_report.specs.Nodes.{node_entries, row_entries, inner_entries}
use Rattle.tool_report.proofs.nodes.+tests.Given as goal

abbrev pub invariant-add_tests-loop-test : goal.invariant-add_tests-loop-test
invariant-add_tests-loop-test l = node_entries l.nodes.items
    ++ row_entries (row_of (map test_of (drop l.test-index l.test-items))) (length l.nodes.items) ≡ node_entries l.fn.nodes.items
    ++ inner_entries (inner_of l.tests) (length l.fn.nodes.items)
