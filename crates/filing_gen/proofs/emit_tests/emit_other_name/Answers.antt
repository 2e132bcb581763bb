use Rattle.std.proofs.Common.{refl}
use Rattle.std.proofs.lemmas.Result.{on_ok_weaker}
use Rattle.filing_image.specs.declared.instruction.Operation.TheVariants.{Join}
use Rattle.filing_flow.specs.Structure.{action, ValuesOf, JoinTwo}
use Rattle.filing_gen.proofs.Emitted.{emits_sequence, action_emitted}
use Rattle.filing_gen.proofs.emit_tests.emit_other_name.Goals as goal

pub returns-in_ok-emit_value-in-Values : goal.returns-in_ok-emit_value-in-Values
returns-in_ok-emit_value-in-Values c =
    rw (c.in-Values.is)
    (on_ok_weaker c.put.result (λ h ends there.
    emits_sequence c.args.out.now c.emit_value.new.out c.put.new.out (action (ValuesOf c.args.name.now)) (action JoinTwo)
    ends (c.in_ok-emit_value-in-Values.ensures ends) (action_emitted c.emit_value.new.out c.put.new.out Join JoinTwo h refl ends))
    c.put.ensures)
