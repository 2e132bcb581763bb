use Rattle.std.proofs.Common.{arith}
use Rattle.filing_gen.specs.Ends.{with_end}
use Rattle.filing_gen.proofs.EndedBlocks.{one_more}
use Rattle.filing_gen.proofs.ends.end_jumps.Goals as goal

pub loop-operation-preserved : goal.loop-operation-preserved
loop-operation-preserved c =
    one_more (with_end c.args.end) c.args.code.now c.loop-operation.code c.loop-operation.operation-index
    c.with_end.result _ c.loop-operation.invariant (omega (arith, c.loop-operation-test.true)) c.with_end.ensures
