-- The choice of an archive of volumes, on worked rows.
use Rattle.std.proofs.Common.{◌≡◌, List, [], ◌∷◌, Some, None, refl}
use Rattle.choice_words.specs.declared.numbers.TypedNumbers.TheVariants.{One, Range}
use Rattle.choice_words.specs.declared.volumes.VolumeNumbers.{VolumeNumbers}
use Rattle.cli_choice.specs.TypedVolumes.{volume_spans_typed}

-- 3/5-9 2/1
abbrev typed : List VolumeNumbers
typed = record { volume = 3; numbers = Range 5 9 } ∷ record { volume = 2; numbers = One 1 } ∷ []

spans_are : volume_spans_typed typed
    ≡ Some (record { volume = 3; first = 5; last = 9 } ∷ record { volume = 2; first = 1; last = 1 } ∷ [])
spans_are = refl

no_spans : volume_spans_typed [] ≡ None
no_spans = refl
