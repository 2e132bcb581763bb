use Rattle.std.proofs.Common.{refl, true}
use Rattle.std.proofs.lemmas.Result.{on_ok_weaker}
use Rattle.filing_image.specs.declared.instruction.Operation.TheVariants.{Pop, PushTrue}
use Rattle.filing_flow.specs.Structure.{action, Drop, Push}
use Rattle.filing_gen.proofs.Emitted.{emits_sequence, action_emitted}
use Rattle.filing_gen.proofs.emit_tests.put_found.Goals as goal

pub returns : goal.returns
returns c =
    on_ok_weaker c.put-2.result (λ h ends.
    emits_sequence c.args.out.now c.put.new.out c.put-2.new.out (action Drop) (action (Push true)) ends
    (action_emitted c.args.out.now c.put.new.out Pop Drop c.in_ok-put.ensures refl ends)
    (action_emitted c.put.new.out c.put-2.new.out PushTrue (Push true) h refl ends)) c.put-2.ensures
