use Rattle.std.proofs.Common.{◌≡◌, map, take}
use Rattle.record_choice.specs.Views.{span_view}
use Rattle.cli_choice.specs.Typed.{span_typed}
use Rattle.cli_choice.proofs.typed.spans_of.Given as goal

abbrev pub invariant-loop-numbers : goal.invariant-loop-numbers
invariant-loop-numbers l = map span_view l.spans.items ≡ map span_typed (take l.numbers-index l.typed)
