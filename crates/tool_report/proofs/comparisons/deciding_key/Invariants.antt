use Rattle.std.proofs.Common.{◌≡◌, drop}
use Rattle.std.specs.List.{find}
use Rattle.sieve_syntax.specs.Arguments.{strings_of}
use Rattle.sieve_meaning.specs.Matching.{key_matches}
use Rattle.tool_report.proofs.comparisons.deciding_key.Given as goal

abbrev pub invariant-loop-key : goal.invariant-loop-key
invariant-loop-key l =
    find (λ key. key_matches l.how l.comparator key l.value) (drop l.key-index l.key-items)
    ≡ find (λ key. key_matches l.how l.comparator key l.value) (strings_of l.keys)
