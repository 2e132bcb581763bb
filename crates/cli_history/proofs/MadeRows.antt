-- Worked rows: what a history tells last, holds beside those that are told, walks, and marks.
use Rattle.std.proofs.Common.{◌≡◌, ◌∷◌, [], ℕ, List, true, false, codes, Option, Some, None, refl}
use Rattle.std.specs.Str.{bytes_eq}
use Rattle.record_history.specs.Events.{Event, Seal, Captured, FoundMessage}
use Rattle.record_tables.specs.Events.{Event as Row, new_event}
use Rattle.cli_history.specs.Compared.{has_seal_of}
use Rattle.cli_history.specs.Judgements.{marked}
use Rattle.cli_history.specs.Made.{are_names, last_numbered}
use Rattle.cli_history.specs.Tellings.{sealed_among}
use Rattle.cli_history.specs.Walks.{next_number, number_behind, rows_left}

-- ---- what has a number

abbrev told : List (ℕ × ℕ)
told = (1, 5) ∷ (2, 6) ∷ (1, 7) ∷ []

abbrev last_told : ℕ → Option (ℕ × ℕ)
last_told n = last_numbered (λ (x : ℕ × ℕ). x.0) told n

last_counts : last_told 1 ≡ Some (1, 7)
last_counts = refl

only_one_counts : last_told 2 ≡ Some (2, 6)
only_one_counts = refl

none_has_it : last_told 3 ≡ None
none_has_it = refl

-- ---- holds

in_any_order : are_names (codes "audit" ∷ codes "court" ∷ []) (codes "court" ∷ codes "audit" ∷ []) ≡ true
in_any_order = refl

no_holds : are_names [] [] ≡ true
no_holds = refl

one_more : are_names (codes "audit" ∷ codes "court" ∷ []) (codes "court" ∷ []) ≡ false
one_more = refl

one_less : are_names (codes "audit" ∷ []) (codes "court" ∷ codes "audit" ∷ []) ≡ false
one_less = refl

another_name : are_names (codes "audit" ∷ []) (codes "court" ∷ []) ≡ false
another_name = refl

-- ---- walks

abbrev row : ℕ → Row
row n = new_event n [] (codes "m")

abbrev rows : List Row
rows = row 1 ∷ row 2 ∷ row 3 ∷ []

all_left : rows_left rows (Some 1) ≡ rows
all_left = refl

two_left : rows_left rows (Some 2) ≡ row 2 ∷ row 3 ∷ []
two_left = refl

none_left : rows_left rows (Some 4) ≡ []
none_left = refl

walk_ended : rows_left rows None ≡ []
walk_ended = refl

goes_on_behind : number_behind rows ≡ Some 4
goes_on_behind = refl

no_number_left : next_number (row 4294967295) ≡ None
no_number_left = refl

-- ---- marks

last_of_a_mark : marked (bytes_eq (codes "m")) rows ≡ Some 3
last_of_a_mark = refl

no_such_mark : marked (bytes_eq (codes "n")) rows ≡ None
no_such_mark = refl

-- ---- seals

abbrev seal : ℕ → Seal
seal octets = record { octets = octets; sum = [] }

abbrev captured : ℕ → ℕ → Event
captured message octets =
    record { moment = 0; who = []; deed = Captured message (seal octets) 0 None ([] ∷ []); notes = []; reason = [] }

abbrev found : ℕ → ℕ → Event
found message octets = record { moment = 0; who = []; deed = FoundMessage message (seal octets); notes = []; reason = [] }

last_seal_counts : sealed_among rows (Some (captured 5 9) ∷ None ∷ Some (found 5 8) ∷ []) 5 ≡ Some (seal 8, 3)
last_seal_counts = refl

seal_of_another : sealed_among rows (Some (captured 5 9) ∷ None ∷ Some (found 6 8) ∷ []) 5 ≡ Some (seal 9, 1)
seal_of_another = refl

not_compared : has_seal_of None None 5 ≡ true
not_compared = refl
