-- The row of a folder on worked rows.
use Rattle.std.proofs.Common.{◌≡◌, ℕ, List, [], ◌∷◌, map, codes, refl}
use Rattle.session_words.specs.Words.{digits_up_to}
use Rattle.record_volumes.specs.Rows.{missing}
use Rattle.cli_volumes.specs.declared.sheet.Sheet.{Sheet}
use Rattle.cli_volumes.specs.Rows.{last_of, volumes_in}

abbrev sheet_of : ℕ → Sheet
sheet_of begun = record { size = 33554432; begun = begun }

-- the names in a folder, how many volumes its sheet has as begun, the number of the last volume, and those that have no name
abbrev rows : List (List (List ℕ) × ℕ × ℕ × List ℕ)
rows =
    (codes "0002.db" ∷ codes "volumes" ∷ codes "0001.db" ∷ [], 2, 2, []) ∷
    (codes "0002.db" ∷ codes "0001.db" ∷ [], 1, 2, []) ∷
    (codes "0001.db" ∷ codes "0001.db-wal" ∷ [], 2, 2, 2 ∷ []) ∷
    (codes "0003.db" ∷ codes "0001.db" ∷ [], 3, 3, 2 ∷ []) ∷
    (codes "0000.db" ∷ codes "volumes.lock" ∷ [], 0, 0, []) ∷
    []

last_are : map (λ r. last_of (sheet_of r.1) (volumes_in r.0)) rows ≡ map (λ r. r.2) rows
unfolding digits_up_to
last_are = refl

unnamed_are : map (λ r. missing r.1 (volumes_in r.0)) rows ≡ map (λ r. r.3) rows
unfolding digits_up_to
unnamed_are = refl
