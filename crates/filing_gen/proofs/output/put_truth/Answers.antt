use Rattle.std.proofs.lemmas.Result.{on_ok_weaker}
use Rattle.filing_gen.proofs.Emitted.{true_emitted, false_emitted}
use Rattle.filing_gen.proofs.output.put_truth.Goals as goal

pub returns-then-truth : goal.returns-then-truth
returns-then-truth c =
    record {
      adds = on_ok_weaker c.put.result (true_emitted c.args.out.now c.put.new.out c.args.truth c.if-truth.true)
          c.put.ensures;
    }

pub returns : goal.returns
returns c = record { adds = on_ok_weaker c.put-2.result (false_emitted c.args.out.now c.put-2.new.out c.args.truth c.if-truth.false) c.put-2.ensures }
