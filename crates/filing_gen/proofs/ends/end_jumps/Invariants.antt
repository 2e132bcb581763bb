use Rattle.std.proofs.Common.{◌≡◌, ◌++◌, map, take, drop}
use Rattle.filing_gen.specs.Ends.{with_end}
use Rattle.filing_gen.proofs.ends.end_jumps.Given as goal

abbrev pub invariant-loop-operation : goal.invariant-loop-operation
invariant-loop-operation l = l.code ≡ map (with_end l.end) (take l.operation-index l.initial.code) ++ drop l.operation-index l.initial.code
