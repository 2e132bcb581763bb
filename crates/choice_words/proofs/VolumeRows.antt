-- The words of volumes, and what is typed of one of them, on worked rows.
use Rattle.std.proofs.Common.{◌≡◌, ℕ, List, [], ◌∷◌, map, codes, Option, Some, None, true, false, refl}
use Rattle.session_words.specs.Words.{digits_up_to, number_up_to}
use Rattle.choice_words.specs.declared.numbers.TypedNumbers.{TypedNumbers}
use Rattle.choice_words.specs.declared.numbers.TypedNumbers.TheVariants.{One, Range}
use Rattle.choice_words.specs.declared.volumes.VolumeNumber.{VolumeNumber}
use Rattle.choice_words.specs.declared.volumes.VolumeNumbers.{VolumeNumbers}
use Rattle.choice_words.specs.Numbers.{is_all}
use Rattle.choice_words.specs.Typed.{from_number, is_named_or_none, is_reached, numbers_for}
use Rattle.choice_words.specs.Volumes.{reversed_in_volume, volume_number, volume_numbers}

abbrev of_volume : ℕ → TypedNumbers → Option VolumeNumbers
of_volume v t = Some (record { volume = v; numbers = t })

-- each word, and the numbers of a volume that it is
abbrev volume_rows : List (List ℕ × Option VolumeNumbers)
volume_rows =
    (codes "3/17", of_volume 3 (One 17)) ∷
    (codes "3/5-9", of_volume 3 (Range 5 9)) ∷
    (codes "3/", of_volume 3 (Range 1 4294967295)) ∷
    (codes "9999/1", of_volume 9999 (One 1)) ∷
    (codes "10000/1", None) ∷
    (codes "0/1", None) ∷
    (codes "03/1", None) ∷
    (codes "3/0", None) ∷
    (codes "3/9-5", None) ∷
    (codes "3/4/5", None) ∷
    (codes "3/5-3/9", None) ∷
    (codes "/17", None) ∷
    (codes "/", None) ∷
    (codes "17", None) ∷
    (codes "./3", None) ∷
    []

volumes_are : map (λ r. volume_numbers r.0) volume_rows ≡ map (λ r. r.1) volume_rows
unfolding digits_up_to number_up_to
volumes_are = refl

-- each word, and the number of one record of a volume that it is
abbrev volume_number_rows : List (List ℕ × Option VolumeNumber)
volume_number_rows =
    (codes "3/17", Some (record { volume = 3; number = 17 })) ∷
    (codes "9999/4294967295", Some (record { volume = 9999; number = 4294967295 })) ∷
    (codes "10000/17", None) ∷
    (codes "3/5-9", None) ∷
    (codes "3/", None) ∷
    (codes "3/0", None) ∷
    (codes "17", None) ∷
    []

volume_numbers_are : map (λ r. volume_number r.0) volume_number_rows ≡ map (λ r. r.1) volume_number_rows
unfolding digits_up_to number_up_to
volume_numbers_are = refl

-- each word, and the range of a volume that it is backwards
abbrev reversed_volume_rows : List (List ℕ × Option VolumeNumbers)
reversed_volume_rows =
    (codes "3/9-5", of_volume 3 (Range 5 9)) ∷
    (codes "3/5-9", None) ∷
    (codes "3/", None) ∷
    (codes "9-5", None) ∷
    []

reversed_volumes_are : map (λ r. reversed_in_volume r.0) reversed_volume_rows ≡ map (λ r. r.1) reversed_volume_rows
unfolding digits_up_to number_up_to
reversed_volumes_are = refl

-- 3/5-9 2/1 3/17
abbrev typed : List VolumeNumbers
typed =
    record { volume = 3; numbers = Range 5 9 } ∷ record { volume = 2; numbers = One 1 } ∷ record { volume = 3; numbers = One 17 } ∷ []

parts_are : map (λ v. numbers_for v typed) (1 ∷ 2 ∷ 3 ∷ []) ≡ [] ∷ (One 1 ∷ []) ∷ (Range 5 9 ∷ One 17 ∷ []) ∷ []
parts_are = refl

named_are : map (λ v. is_named_or_none v typed) (1 ∷ 2 ∷ 3 ∷ []) ≡ false ∷ true ∷ true ∷ []
named_are = refl

-- where nothing is typed, each volume is meant
all_are : map (λ v. is_named_or_none v []) (1 ∷ 2 ∷ []) ≡ true ∷ true ∷ []
all_are = refl

-- from 2/5 on
abbrev first : Option VolumeNumber
first = Some (record { volume = 2; number = 5 })

reached_are : map (λ v. is_reached v first) (1 ∷ 2 ∷ 3 ∷ []) ≡ false ∷ true ∷ true ∷ []
reached_are = refl

firsts_are : map (λ v. from_number v first) (2 ∷ 3 ∷ []) ≡ 5 ∷ 0 ∷ []
firsts_are = refl

-- all numbers of a volume, and others
whole_are : map is_all (Range 1 4294967295 ∷ Range 2 4294967295 ∷ Range 1 9 ∷ One 1 ∷ []) ≡ true ∷ false ∷ false ∷ false ∷ []
whole_are = refl
