-- Where the operation at a place leads.
use Rattle.std.proofs.Common.{◌≡◌, ℕ, Some, subst}
use Rattle.std.specs.Prelude.{slice_get}
use Rattle.filing_image.specs.Program.{Program}
use Rattle.filing_image.specs.declared.instruction.Operation.{Operation}
use Rattle.filing_verify.specs.Flow.{Follows, Leads}

pub leads_here : (program : Program) (place : ℕ) (o : Operation) → slice_get program.code place ≡ Some o → (q : ℕ)
    → Leads program place q → Follows program o place q
leads_here program place o here q leads =
    let same : leads.0 ≡ o = cc (leads.1, here) in
    subst (λ (x : Operation). Follows program x place q) same leads.2
