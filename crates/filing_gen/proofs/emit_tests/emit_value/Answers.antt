use Rattle.std.proofs.Common.{refl}
use Rattle.std.proofs.lemmas.Result.{on_ok_weaker}
use Rattle.filing_flow.specs.Structure.{ValuesOf}
use Rattle.filing_gen.proofs.Emitted.{text_emitted}
use Rattle.filing_gen.proofs.emit_tests.emit_value.Goals as goal

pub returns : goal.returns
returns c =
    on_ok_weaker c.put.result
    (λ h ends. text_emitted c.args.out.now c.text_operand.new.out c.put.new.out _ (ValuesOf c.args.name.now) _
    c.args.name.now c.in_ok-place.ensures.brings h c.in_ok-place.ensures.there (λ at. (_, refl, at)) ends)
    c.put.ensures
