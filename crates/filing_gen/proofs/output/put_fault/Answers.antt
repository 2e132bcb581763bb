use Rattle.std.proofs.Common.{ap}
use Rattle.std.proofs.lemmas.Result.{on_ok_weaker}
use Rattle.filing_image.specs.declared.instruction.Operation.TheVariants.{Fault}
use Rattle.filing_flow.specs.Structure.{Fail}
use Rattle.filing_gen.proofs.Emitted.{action_emitted}
use Rattle.filing_gen.proofs.output.put_fault.Goals as goal

pub returns : goal.returns
returns c = record {
  adds =
      on_ok_weaker c.put.result (λ h ends.
      action_emitted c.args.out.now c.put.new.out (Fault c.number.result) (Fail c.args.fault) h
      (ap Fault c.number.ensures) ends) c.put.ensures;
}
