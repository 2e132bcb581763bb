-- The definitions on worked rows.
use Rattle.std.proofs.Common.{◌≡◌, ℕ, List, [], ◌∷◌, map, codes, Option, Some, None, refl}
use Rattle.std.specs.Fmt.{digits}
use Rattle.session_words.specs.Words.{digits_up_to}
use Rattle.cli_volumes.specs.declared.rolling.Seen.{Seen}
use Rattle.cli_volumes.specs.declared.rolling.Step.{Step}
use Rattle.cli_volumes.specs.declared.rolling.Step.TheVariants.{Into, Note, Begin}
use Rattle.cli_volumes.specs.Finding.{step_of}
use Rattle.cli_volumes.specs.Names.{draft_of, name_of, path_of, volume_named}
use Rattle.cli_volumes.specs.Sheets.{spelling}

-- the last volume, its octets, how many volumes are noted as begun, the size of a volume, and what is done
abbrev steps : List (Seen × Step)
steps =
    (record { last = 3; octets = 10; begun = 3; size = 10 }, Into 3) ∷
    (record { last = 3; octets = 11; begun = 3; size = 10 }, Begin 4) ∷
    (record { last = 3; octets = 10; begun = 2; size = 10 }, Note 3) ∷
    (record { last = 3; octets = 11; begun = 2; size = 10 }, Begin 4) ∷
    (record { last = 9999; octets = 11; begun = 9999; size = 10 }, Into 9999) ∷
    []

steps_are : map (λ r. step_of r.0) steps ≡ map (λ r. r.1) steps
steps_are = refl

-- each name, and the volume that it names
abbrev names : List (List ℕ × Option ℕ)
names =
    (codes "0001.db", Some 1) ∷
    (codes "9999.db", Some 9999) ∷
    (codes "0000.db", None) ∷
    (codes "1.db", None) ∷
    (codes "00001.db", None) ∷
    (codes "0001.db-wal", None) ∷
    (codes "0001.db.mailfile-new", None) ∷
    (codes "000a.db", None) ∷
    (codes "0001.sql", None) ∷
    (codes "volumes", None) ∷
    []

names_are : map (λ r. volume_named r.0) names ≡ map (λ r. r.1) names
unfolding digits_up_to
names_are = refl

spelled : map name_of (1 ∷ 17 ∷ 9999 ∷ []) ≡ codes "0001.db" ∷ codes "0017.db" ∷ codes "9999.db" ∷ []
unfolding digits
spelled = refl

placed : map (λ folder. path_of folder 17) (codes "kept" ∷ codes "archive/kept/" ∷ codes "/" ∷ [])
    ≡ codes "kept/0017.db" ∷ codes "archive/kept/0017.db" ∷ codes "/0017.db" ∷ []
unfolding digits
placed = refl

drafts_are : map draft_of (codes "kept" ∷ codes "kept/" ∷ []) ≡ codes "kept.mailfile-new" ∷ codes "kept.mailfile-new" ∷ []
drafts_are = refl

sheet_is : spelling (record { size = 33554432; begun = 5 }) ≡ codes "mailfile volumes 1\nsize 33554432\nbegun 5\n"
unfolding digits
sheet_is = refl
