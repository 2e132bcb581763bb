-- Cases on worked rows: what events make of the case `audit`, each with its number.
use Rattle.std.proofs.Common.{◌≡◌, ℕ, Bool, true, false, List, [], ◌∷◌, codes, Option, Some, None, refl}
use Rattle.class_plan.specs.Plans.{first_plan}
use Rattle.record_history.specs.Events.{Deed, Held, Released, FoundHold, FoundPlan}
use Rattle.cli_history.specs.Cases.{Case, case_after}

abbrev after : List (ℕ × Deed) → Option Case → Option Case
after [] c = c
after (e ∷ es) c = after es (case_after (codes "audit") e.0 e.1 c)

abbrev told : (others event : ℕ) → (found : Bool) → Option Case
told others event found = Some (record { others = others; event = event; found = found; is_open = false })

abbrev audit : ℕ → Deed
audit n = Held (codes "audit") n

abbrev no_audit : ℕ → Deed
no_audit n = Released (codes "audit") n

goes_on : after ((2, audit 5) ∷ (3, audit 6) ∷ (4, no_audit 5) ∷ []) None ≡ told 0 2 false
goes_on = refl

ends : after ((2, audit 5) ∷ (3, no_audit 5) ∷ []) None ≡ None
ends = refl

begins_anew : after ((2, audit 5) ∷ (3, no_audit 5) ∷ (4, audit 5) ∷ []) None ≡ told 0 4 false
begins_anew = refl

others_do_not_count : after ((2, Held (codes "court") 5) ∷ (3, audit 5) ∷ (4, Released (codes "court") 5) ∷ []) None ≡ told 0 3 false
others_do_not_count = refl

found_again : after ((2, audit 5) ∷ (3, FoundPlan first_plan) ∷ (4, FoundHold (codes "audit") 5) ∷ (5, FoundHold (codes "audit") 6) ∷ [])
    None ≡ told 1 2 false
found_again = refl

only_found : after ((1, FoundPlan first_plan) ∷ (2, FoundHold (codes "audit") 5) ∷ []) None ≡ told 0 2 true
only_found = refl

not_found_again : after ((2, audit 5) ∷ (3, FoundPlan first_plan) ∷ (4, audit 6) ∷ []) None ≡ told 0 4 false
not_found_again = refl
