-- Images that are refused since they may not run.
use Rattle.std.proofs.Common.{◌≡◌, ◌≤◌, ℕ, List, length, refl, inl, inr}
use Rattle.filing_image.specs.Program.{Program, parts}
use Rattle.filing_image.specs.Spelling.{Fits, spelling}
use Rattle.filing_verify.specs.Well.{Fails, verify_number}
use Rattle.filing_verify.specs.declared.fault.VerifyFault.{VerifyFault}
use Rattle.filing_verify.specs.declared.fault.VerifyFault.TheVariants.{NoMemory, Operand, Backward, Stack, RunsOff, Budget}
use Rattle.desk_commands.specs.Faults.{verify_fault}
use Rattle.desk_commands.specs.Limits.{greatest_image}
use Rattle.desk_commands.specs.Parts.{IsUnfit, RefusesImage}
use Rattle.filing_desk.specs.Judging.{IsFaultOf}

module _ (octets : List ℕ) (p : Program) (short : length octets ≤ greatest_image) (fits : Fits (parts p)) (spells : octets ≡ spelling (parts p)) where
  unfit : (fault : VerifyFault) → Fails fault p → IsUnfit octets (verify_number fault)
  unfit fault fails = record {
    program = p;
    is_image = record { short = short; fits = fits; spells = spells };
    fault =
        fault;
    fails = fails;
    is_number = refl;
  }

  pub unfit_fault : (fault : VerifyFault) → Fails fault p → IsFaultOf (RefusesImage octets) greatest_image octets (verify_fault fault)
  unfit_fault NoMemory fails = inr (refl, short)
  unfit_fault Operand fails = inl (refl, inr (inr (unfit Operand fails)))
  unfit_fault Backward fails = inl (refl, inr (inr (unfit Backward fails)))
  unfit_fault Stack fails = inl (refl, inr (inr (unfit Stack fails)))
  unfit_fault RunsOff fails = inl (refl, inr (inr (unfit RunsOff fails)))
  unfit_fault Budget fails = inl (refl, inr (inr (unfit Budget fails)))
