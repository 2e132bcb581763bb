use Rattle.std.proofs.Common.{refl, true}
use Rattle.std.proofs.lemmas.Result.{on_ok_weaker}
use Rattle.filing_flow.specs.Structure.{action, leave_if, MatchKey}
use Rattle.filing_gen.proofs.Emitted.{emits_sequence, text_emitted}
use Rattle.filing_gen.proofs.emit_tests.emit_key.Goals as goal

pub returns : goal.returns
returns c =
    on_ok_weaker c.put_jump.result
    (λ h ends there.
    emits_sequence c.args.out.now c.put.new.out c.put_jump.new.out (action (MatchKey c.args.how c.args.key.now))
    (leave_if true 0) ends
    (text_emitted c.args.out.now c.text_operand.new.out c.put.new.out _ (MatchKey c.args.how c.args.key.now) _
    c.args.key.now c.in_ok-place.ensures.brings c.in_ok-put.ensures c.in_ok-place.ensures.there (λ at.
    (_, refl, at)) ends) (h ends there))
    c.put_jump.ensures
