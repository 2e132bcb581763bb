use Rattle.std.proofs.Common.{refl}
use Rattle.std.proofs.lemmas.Result.{on_ok_weaker}
use Rattle.filing_image.specs.declared.instruction.Operation.TheVariants.{Size, Less}
use Rattle.filing_flow.specs.Structure.{action, sequence, PushNumber, PushSize, IsLess}
use Rattle.filing_gen.proofs.Emitted.{emits_sequence, action_emitted, number_emitted}
use Rattle.filing_gen.proofs.emit_tests.emit_over.Goals as goal

pub returns : goal.returns
returns c =
    on_ok_weaker c.put-3.result (λ h ends.
    emits_sequence c.args.out.now c.put.new.out c.put-3.new.out (action (PushNumber c.args.number)) (sequence (action PushSize) (action IsLess)) ends
    (number_emitted c.args.out.now c.number_operand.new.out c.put.new.out _ (PushNumber c.args.number) _ c.args.number
    c.in_ok-place.ensures.brings c.in_ok-put.ensures c.in_ok-place.ensures.there (λ at. (_, refl, at)) ends)
    (emits_sequence c.put.new.out c.put-2.new.out c.put-3.new.out (action PushSize) (action IsLess) ends
    (action_emitted c.put.new.out c.put-2.new.out Size PushSize c.in_ok-put-2.ensures refl ends)
    (action_emitted c.put-2.new.out c.put-3.new.out Less IsLess h refl ends))) c.put-3.ensures
