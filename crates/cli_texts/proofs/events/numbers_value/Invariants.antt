use Rattle.std.proofs.Common.{◌≡◌, ◌++◌, ◌-◌, suc, map}
use Rattle.std.specs.List.{range_with_len}
use Rattle.serde_json.specs.Data.{number, unsigned}
use Rattle.serde_json.specs.View.{view}
use Rattle.cli_texts.proofs.events.numbers_value.Given as goal

abbrev pub invariant-loop-number : goal.invariant-loop-number
invariant-loop-number l =
    map view l.numbers.items ++ map (λ n. number (unsigned n)) (range_with_len l.number (suc l.last - l.number))
    ≡ map (λ n. number (unsigned n)) (range_with_len l.first (suc l.last - l.first))
