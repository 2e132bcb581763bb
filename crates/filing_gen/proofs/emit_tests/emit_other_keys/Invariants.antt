use Rattle.std.proofs.Common.{drop}
use Rattle.filing_gen.specs.BlockCode.{keys_flow}
use Rattle.filing_gen.proofs.Emitted.{Completes}
use Rattle.filing_gen.proofs.EmittedTests.{Unknown}
use Rattle.filing_gen.proofs.emit_tests.emit_other_keys.Given as goal

abbrev pub invariant-loop-key : goal.invariant-loop-key
invariant-loop-key l = Completes l.initial.out l.out (keys_flow l.how (drop l.key-index l.keys)) (keys_flow l.how l.keys) Unknown
