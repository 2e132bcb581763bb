use Rattle.std.proofs.Common.{ℕ, List, Result, Ok, Err, inl, inr, refl, sym, subst}
use Rattle.std.specs.Prelude.{IfErr}
use denote.Ref.{Bor}
use Rattle.sieve_text.specs.declared.fault.ScanRefusal.TheVariants.{ScriptTooLong}
use Rattle.sieve_text.specs.declared.fault.TextRefusal.TheVariants.{Scan}
use Rattle.desk_commands.specs.Limits.{greatest_script}
use Rattle.desk_commands.specs.Parts.{RefusesScript}
use Rattle.desk_commands.specs.Payloads.{IsOffered}
use Rattle.desk_commands.specs.declared.fault.DeskFault.{DeskFault}
use Rattle.desk_commands.specs.declared.fault.DeskFault.TheVariants.{Text}
use Rattle.filing_desk.specs.Judging.{IsFaultOf}
use Rattle.filing_desk.proofs.payloads.script_text.Goals as goal

long_is_refused : (s : List ℕ) (r : Result (Bor (List ℕ)) DeskFault)
    → IsOffered greatest_script (Text (Scan ScriptTooLong) 0) s r
    → IfErr r (IsFaultOf (RefusesScript s) greatest_script s)
long_is_refused s (Ok text) offered = tt
long_is_refused s (Err fault) (inl long) =
    let P : DeskFault → Type 0 = IsFaultOf (RefusesScript s) greatest_script s in
    subst P (sym long.1) (inl (refl, inl (record { refusal = Scan ScriptTooLong; explains = inl long.0; is_number = refl })))
long_is_refused s (Err fault) (inr none) = inr (none.1, none.0)

pub returns-clause-refused : goal.returns-clause-refused
returns-clause-refused c = λ s is. long_is_refused s c.octets.result (c.octets.ensures.offered s is)
