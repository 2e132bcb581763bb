use Rattle.std.proofs.lemmas.Result.{on_ok_weaker}
use Rattle.filing_gen.proofs.Emitted.{jump_true_emitted, jump_false_emitted}
use Rattle.filing_gen.proofs.emit_tests.put_jump.Goals as goal

pub returns-then-truth : goal.returns-then-truth
returns-then-truth c = on_ok_weaker c.put.result (jump_true_emitted c.args.out.now c.put.new.out c.args.truth c.if-truth.true) c.put.ensures

pub returns : goal.returns
returns c = on_ok_weaker c.put-2.result (jump_false_emitted c.args.out.now c.put-2.new.out c.args.truth c.if-truth.false) c.put-2.ensures
