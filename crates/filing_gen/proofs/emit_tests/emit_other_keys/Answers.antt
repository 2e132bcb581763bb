use Rattle.std.proofs.Common.{ℕ, List, ap}
use Rattle.filing_gen.specs.BlockCode.{keys_flow}
use Rattle.std.proofs.Math.ListN.{drop_of_length-le}
use Rattle.filing_gen.proofs.Emitted.{leads_last}
use Rattle.filing_gen.proofs.EmittedTests.{Unknown, keys_turn}
use Rattle.filing_gen.proofs.emit_tests.emit_other_keys.Goals as goal

pub loop-key-preserved : goal.loop-key-preserved
loop-key-preserved c =
    keys_turn c.args.out.now c.loop-key.out c.emit_key.new.out c.args.keys.now c.loop-key.key-index c.key-item.result
    c.loop-key-test.true c.key-item.is _ c.as_slice.result.now c.as_slice.ensures.value c.args.how c.loop-key.invariant
    c.in_ok-emit_key.ensures

pub returns : goal.returns
returns c = leads_last c.args.out.now c.loop-key.out _ _ Unknown c.loop-key.invariant (ap (λ (ys : List (List ℕ)).
    keys_flow c.args.how ys) (drop_of_length-le c.args.keys.now c.loop-key-test.false))
