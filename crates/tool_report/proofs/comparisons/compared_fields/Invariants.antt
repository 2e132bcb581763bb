use Rattle.std.proofs.Common.{◌≡◌, ◌++◌, drop}
use Rattle.sieve_syntax.specs.Arguments.{strings_of}
use Rattle.sieve_evaluator.specs.Case.{has_some_name}
use Rattle.tool_report.specs.Comparisons.{places_where}
use Rattle.tool_report.proofs.comparisons.compared_fields.Given as goal

abbrev pub invariant-loop-place : goal.invariant-loop-place
invariant-loop-place l = l.places.items
    ++ places_where (has_some_name (strings_of l.names)) l.place (drop l.place l.fields)
    ≡ places_where (has_some_name (strings_of l.names)) 0 l.fields
