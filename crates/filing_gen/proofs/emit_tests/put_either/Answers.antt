use Rattle.std.proofs.Common.{not, ◌+◌, arith}
use Rattle.std.proofs.lemmas.Result.{on_ok_weaker}
use Rattle.filing_gen.proofs.EmittedTests.{either_emitted}
use Rattle.filing_gen.proofs.emit_tests.put_either.Goals as goal

pub returns : goal.returns
returns c =
    on_ok_weaker c.put_truth-2.result
    (λ h x a ends from typed e.
    either_emitted x c.args.out.now c.end_block_at.new.out c.put_truth.new.out c.put.new.out c.put_truth-2.new.out a
    (not c.args.stop) c.args.stop c.args.start (c.len.result + 2)
    (omega (arith, c.len.ensures, c.args.out.now.code.ok.0)) (omega (
      arith,
      c.len.ensures,
      c.args.out.now.code.ok.0,
      c.requires.room,
    )) from typed e c.end_block_at.ensures c.in_ok-put_truth.ensures.adds c.in_ok-put.ensures h ends)
    c.put_truth-2.ensures.adds
