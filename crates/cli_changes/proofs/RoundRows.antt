-- The rounds of an intake, on worked rows.
use Rattle.std.proofs.Common.{◌≡◌, ℕ, ◌-◌, ◌^◌, List, [], ◌∷◌, map, codes, true, false, refl}
use Rattle.cli_console.specs.declared.failure.Status.TheVariants.{BadData, TryAgain}
use Rattle.std.specs.Prelude.{None, Some}
use Rattle.mail_intake.specs.declared.tally.Tally.{Tally}
use Rattle.cli_changes.specs.Endings.{status_after}
use Rattle.cli_changes.specs.Rounds.{is_before, together}

-- so many are taken, unfit and given up
abbrev tally : (taken unfit given_up : ℕ) → Tally
tally taken unfit given_up = record { taken = taken; unfit = unfit; given_up = given_up }

sums_are : map (λ (p : Tally × Tally). together p.0 p.1)
    ((tally 3 0 0, tally 2 1 0) ∷ (tally 0 1 4, tally 7 0 1) ∷ (tally (2 ^ 64 - 1) 0 0, tally 1 0 0) ∷ [])
    ≡ tally 5 1 0 ∷ tally 7 1 5 ∷ tally (2 ^ 64 - 1) 0 0 ∷ []
sums_are = refl

-- a message that was given up, or stays, in a volume before has its say in the end
statuses_are : map (λ (before : Tally). status_after (together before (tally 1 0 0)) 0) (tally 2 0 0 ∷ tally 2 1 0 ∷ tally 2 1 1 ∷ [])
    ≡ None ∷ Some BadData ∷ Some TryAgain ∷ []
statuses_are = refl

names_are_in_order : map (λ (name : List ℕ). is_before name (codes "1700000000.M5"))
    (codes "" ∷ codes "1700000000" ∷ codes "1700000000.M4" ∷ codes "1700000000.M5" ∷ codes "1700000000.M50" ∷ codes "9" ∷ [])
    ≡ true ∷ true ∷ true ∷ false ∷ false ∷ false ∷ []
names_are_in_order = refl
