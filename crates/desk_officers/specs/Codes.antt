-- How the settings of officers are coded.
use Rattle.std.specs.Prelude.{◌≡◌, ◌⊎◌, ℕ, List, Option, Some, None, refl}
use Rattle.std.specs.Coded.{Coded, code_by, coded×, coded⊎, coded_list, coded_option, coded_ℕ}
use Rattle.std.proofs.Common.{inl, inr}
use Rattle.sieve_library.specs.Libraries.{NamedScript, entries_code}
use Rattle.filing_image.specs.Program.{Program}
use Rattle.filing_verify.specs.contracts.verifier.Verified as verified
use Rattle.desk_commands.specs.Pinning.{Active, no_program, script_named, image}
use Rattle.desk_officers.specs.Register.{Settings, Register}

abbrev cases : Active → Option (List ℕ ⊎ Program)
cases no_program = None
cases (script_named name) = Some (inl name)
cases (image p) = Some (inr p)

abbrev active : Option (List ℕ ⊎ Program) → Active
active None = no_program
active (Some (inl name)) = script_named name
active (Some (inr p)) = image p

pub active-cases : (a : Active) → active (cases a) ≡ a
active-cases no_program = refl
active-cases (script_named name) = refl
active-cases (image p) = refl

abbrev active_code : Coded Active
active_code = code_by (Option (List ℕ ⊎
    Program)) (coded_option (coded⊎ (coded_list coded_ℕ) verified.the_row.coded)) cases active active-cases

abbrev settings_code : Coded Settings
settings_code =
    let pair = coded× active_code entries_code in
    code_by (Active × List NamedScript) pair (λ s. (s.active, s.scripts)) (λ p. record { active = p.0; scripts = p.1 }) (λ _. refl)

abbrev officers_code : Coded (List (List ℕ × Settings))
officers_code = coded_list (coded× (coded_list coded_ℕ) settings_code)

abbrev pub register_code : Coded Register
register_code =
    let pair = coded× entries_code officers_code in
    code_by (List NamedScript × List (List ℕ × Settings)) pair (λ r. (r.globals, r.officers)) (λ p. record { globals = p.0; officers = p.1 }) (λ _. refl)
