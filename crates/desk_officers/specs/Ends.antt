-- Programs of one instruction.
use Rattle.std.specs.Prelude.{◌≡◌, ◌⊎◌, [], ◌∷◌, None}
use Rattle.sieve_meaning.specs.declared.run_fault.RunFault.TheVariants.{TooHeavy}
use Rattle.sieve_meaning.specs.RunFaults.{number_of}
use Rattle.filing_image.specs.Program.{Program}
use Rattle.filing_image.specs.declared.instruction.Operation.{Operation}
use Rattle.filing_image.specs.declared.instruction.Operation.TheVariants.{Stop, Fault}

-- an operation that ends the run of a program of one instruction: STOP, or the FAULT of a script that is too heavy
abbrev pub IsEnd : Operation → Type 0
IsEnd o = (o ≡ Stop) ⊎ (o ≡ Fault (number_of TooHeavy))

abbrev pub alone : Operation → Program
alone o = record { budget = 1; texts = []; numbers = []; slots = 0; procedures = None; code = o ∷ [] }
