use Rattle.std.proofs.Common.{◌≡◌, ◌++◌, drop, flat_map}
use Rattle.cli_changes.specs.PassedOver.{numbers_after}
use Rattle.cli_changes.proofs.passed_over.put_all.Given as goal

abbrev pub invariant-loop-typed : goal.invariant-loop-typed
invariant-loop-typed l =
    l.text ++ flat_map (numbers_after l.volume) (drop l.typed-index l.numbers) ≡ l.initial.text ++ flat_map (numbers_after l.volume) l.numbers
