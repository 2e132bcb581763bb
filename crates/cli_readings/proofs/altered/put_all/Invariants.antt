use Rattle.std.proofs.Common.{◌≡◌, ◌++◌, drop, flat_map}
use Rattle.cli_readings.specs.Altered.{typed_in}
use Rattle.cli_readings.proofs.altered.put_all.Given as goal

abbrev pub invariant-loop-typed : goal.invariant-loop-typed
invariant-loop-typed l =
    l.line ++ flat_map (typed_in l.volume) (drop l.typed-index l.numbers) ≡ l.initial.line ++ flat_map (typed_in l.volume) l.numbers
