use Rattle.filing_image.proofs.Written.{no_code}
use Rattle.filing_image.proofs.image.operations.Goals as goal

pub returns-in_default-clause-refused : goal.returns-in_default-clause-refused
returns-in_default-clause-refused c = λ _ code e.
    no_code c.args.instructions.now c.loop-instruction.instruction-index _ c.loop-instruction-test.true
    c.in_default.ensures.none code e
