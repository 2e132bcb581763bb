use Rattle.std.proofs.Common.{refl, false}
use Rattle.std.proofs.lemmas.Result.{on_ok_weaker}
use Rattle.filing_image.specs.declared.instruction.Operation.TheVariants.{Pop, PushFalse}
use Rattle.filing_flow.specs.Structure.{action, sequence, leave, Drop, Push}
use Rattle.filing_gen.proofs.Emitted.{emits_sequence, action_emitted, leave_emitted}
use Rattle.filing_gen.proofs.emit_tests.put_missed.Goals as goal

pub returns : goal.returns
returns c =
    on_ok_weaker c.put-3.result (λ h ends there.
    emits_sequence c.args.out.now c.put.new.out c.put-3.new.out (action Drop) (sequence (action (Push false)) (leave 1)) ends
    (action_emitted c.args.out.now c.put.new.out Pop Drop c.in_ok-put.ensures refl ends)
    (emits_sequence c.put.new.out c.put-2.new.out c.put-3.new.out (action (Push false)) (leave 1) ends
    (action_emitted c.put.new.out c.put-2.new.out PushFalse (Push false) c.in_ok-put-2.ensures refl ends)
    (leave_emitted c.put-2.new.out c.put-3.new.out c.args.end 1 ends h there))) c.put-3.ensures
