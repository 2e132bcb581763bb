-- The definitions on worked rows.
use Rattle.std.proofs.Common.{◌≡◌, ℕ, true, false, List, [], ◌∷◌, map, codes, Some, None, refl}
use Rattle.record_archive.specs.Archive.{Archive, Record, empty_archive}
use Rattle.record_choice.specs.Choices.{every_record}
use Rattle.record_volumes.specs.declared.rolling.Target.{Target}
use Rattle.record_volumes.specs.declared.rolling.Target.TheVariants.{Last, Next}
use Rattle.record_volumes.specs.Rolling.{target}
use Rattle.record_volumes.specs.Rows.{missing}
use Rattle.record_volumes.specs.Volumes.{Placed, VolumeSpan, VolumeChoice, asks_for, chosen_in_all}

abbrev live : ℕ → Record
live n = record { number = n; message = n; path = codes "unfiled"; day = 100; destroyed = false }

abbrev of_records : List Record → Archive
of_records rs = record empty_archive { records = rs }

-- the first volume has records 1, 2 and 3, the second none, and the third record 1, which is destroyed, and record 2
abbrev worked : List Archive
worked =
    of_records (live 1 ∷ live 2 ∷ live 3 ∷ []) ∷ of_records [] ∷ of_records (record (live 1) { destroyed = true } ∷ live 2 ∷ []) ∷ []

abbrev every : VolumeChoice
every = record { numbers = None; first = None; others = every_record }

abbrev span : ℕ → ℕ → ℕ → VolumeSpan
span v m n = record { volume = v; first = m; last = n }

abbrev from : ℕ → ℕ → VolumeChoice
from v n = record every { first = Some (record { volume = v; number = n }) }

-- each choice, and the volumes and numbers of the records that are chosen
abbrev rows : List (VolumeChoice × List (ℕ × ℕ))
rows =
    (every, (1, 1) ∷ (1, 2) ∷ (1, 3) ∷ (3, 1) ∷ (3, 2) ∷ []) ∷
    (record every { numbers = Some (span 3 2 9 ∷ span 1 2 3 ∷ []) }, (1, 2) ∷ (1, 3) ∷ (3, 2) ∷ []) ∷
    (record every { numbers = Some (span 2 1 9 ∷ []) }, []) ∷
    (record every { others = record every_record { live = true } }, (1, 1) ∷ (1, 2) ∷ (1, 3) ∷ (3, 2) ∷ []) ∷
    (record every { others = record every_record { numbers = Some [] } }, (1, 1) ∷ (1, 2) ∷ (1, 3) ∷ (3, 1) ∷ (3, 2) ∷ []) ∷
    (from 1 3, (1, 3) ∷ (3, 1) ∷ (3, 2) ∷ []) ∷
    (from 2 9, (3, 1) ∷ (3, 2) ∷ []) ∷
    (from 3 2, (3, 2) ∷ []) ∷
    (from 4 1, []) ∷
    (record (from 1 2) { numbers = Some (span 1 1 2 ∷ []) }, (1, 2) ∷ []) ∷
    []

chosen_are : map (λ r. map (λ (p : Placed). (p.volume, p.one.number)) (chosen_in_all None r.0 worked)) rows ≡ map (λ r. r.1) rows
chosen_are = refl

-- each choice, and which of the volumes it asks for
asked_are : map (λ c. map (λ v. asks_for v c) (1 ∷ 2 ∷ 3 ∷ []))
    (every ∷ record every { numbers = Some (span 3 2 9 ∷ span 1 2 3 ∷ []) } ∷ from 2 9 ∷ [])
    ≡ (true ∷ true ∷ true ∷ []) ∷ (true ∷ false ∷ true ∷ []) ∷ (false ∷ true ∷ true ∷ []) ∷ []
asked_are = refl

-- how many volumes were begun, the volumes that were found, and the missing ones
abbrev gaps : List (ℕ × List ℕ × List ℕ)
gaps =
    (3, 1 ∷ 2 ∷ 3 ∷ [], []) ∷
    (2, 3 ∷ 1 ∷ 2 ∷ [], []) ∷
    (3, 1 ∷ 2 ∷ [], 3 ∷ []) ∷
    (2, 5 ∷ 1 ∷ 3 ∷ [], 2 ∷ 4 ∷ []) ∷
    (0, [], []) ∷
    []

missing_are : map (λ r. missing r.0 r.1) gaps ≡ map (λ r. r.2) gaps
missing_are = refl

-- the last volume, its octets, the size of a volume, and where a message goes
abbrev targets : List (ℕ × ℕ × ℕ × Target)
targets =
    (1, 0, 10, Last 1) ∷
    (1, 10, 10, Last 1) ∷
    (1, 11, 10, Next 2) ∷
    (9999, 11, 10, Last 9999) ∷
    []

targets_are : map (λ r. target r.0 r.1 r.2) targets ≡ map (λ r. r.3) targets
targets_are = refl
