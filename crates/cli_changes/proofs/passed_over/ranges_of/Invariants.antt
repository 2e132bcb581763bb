use Rattle.std.proofs.Common.{◌≡◌, ◌++◌, drop, map}
use Rattle.record_choice.specs.Views.{span_view}
use Rattle.cli_changes.specs.PassedOver.{range_spans}
use Rattle.cli_changes.proofs.passed_over.ranges_of.Given as goal

abbrev pub invariant-loop-numbers : goal.invariant-loop-numbers
invariant-loop-numbers l = map span_view l.spans.items ++ range_spans (drop l.numbers-index l.typed) ≡ range_spans l.typed
