use Rattle.std.proofs.Common.{◌≡◌, ◌++◌, filter, not}
use Rattle.record_choice.specs.Disposals.{is_one_of}
use Rattle.cli_choice.proofs.typed.not_among.Given as goal

abbrev pub invariant-loop-number : goal.invariant-loop-number
invariant-loop-number l =
    l.kept.items ++ filter (λ n. not (is_one_of l.others n)) l.number-iterator.rest.items
    ≡ filter (λ n. not (is_one_of l.others n)) l.fn.numbers.items
