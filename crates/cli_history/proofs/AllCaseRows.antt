-- Cases in several stores, on worked rows.
use Rattle.std.proofs.Common.{◌≡◌, ℕ, List, [], ◌∷◌, codes, false, Option, Some, None, refl}
use Rattle.cli_history.specs.AllCases.{Beginning, WholeCase, first_began, in_both, with_cases}

-- the beginning in a volume at a moment
abbrev began : (volume moment : ℕ) → Option Beginning
began volume moment = Some (record { volume = Some volume; event = 7; moment = moment; who = codes "bea"; reason = []; found = false })

abbrev kept : ℕ → Option Beginning → WholeCase
kept records began = record { records = records; began = began }

earlier_one : first_began (began 1 200) (began 2 100) ≡ began 2 100
earlier_one = refl

same_moment : first_began (began 1 100) (began 2 100) ≡ began 1 100
same_moment = refl

told_in_one : first_began None (began 2 100) ≡ began 2 100
told_in_one = refl

two_volumes : in_both (kept 2 (began 1 100)) (kept 3 (began 2 200)) ≡ kept 5 (began 1 100)
two_volumes = refl

most_records : in_both (kept 18446744073709551615 None) (kept 3 None) ≡ kept 18446744073709551615 None
most_records = refl

-- a volume with two cases, of which one is that of the name
abbrev volume : List (List ℕ × WholeCase)
volume = (codes "audit", kept 2 (began 2 100)) ∷ (codes "court", kept 1 None) ∷ []

first_volume : with_cases (codes "audit") volume None ≡ Some (kept 2 (began 2 100))
first_volume = refl

next_volume : with_cases (codes "audit") volume (Some (kept 3 (began 1 200))) ≡ Some (kept 5 (began 2 100))
next_volume = refl

no_case : with_cases (codes "strike") volume None ≡ None
no_case = refl
