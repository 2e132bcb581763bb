-- The choice that is typed of an archive of volumes.
use Rattle.std.specs.Prelude.{◌≡◌, ℕ, List, [], ◌∷◌, map, Option, Some, None, option_map}
use Rattle.choice_words.specs.declared.choice.Choice as words
use Rattle.choice_words.specs.declared.typed.TypedChoice.{TypedChoice}
use Rattle.choice_words.specs.declared.volumes.VolumeNumber as typed
use Rattle.choice_words.specs.declared.volumes.VolumeNumbers.{VolumeNumbers}
use Rattle.record_archive.specs.Archive.{Archive, Record}
use Rattle.record_choice.specs.Choices.{Question}
use Rattle.record_volumes.specs.Volumes.{VolumeChoice, VolumeNumber, VolumeSpan, chosen_from, chosen_in}
use Rattle.cli_choice.specs.Typed.{choice_typed, span_typed}

-- the numbers of a volume that a word means
abbrev pub volume_span_typed : VolumeNumbers → VolumeSpan
volume_span_typed w = record { volume = w.volume; first = (span_typed w.numbers).first; last = (span_typed w.numbers).last }

-- nothing is asked of numbers where none is typed
abbrev pub volume_spans_typed : List VolumeNumbers → Option (List VolumeSpan)
volume_spans_typed [] = None
volume_spans_typed (w ∷ ws) = Some (map volume_span_typed (w ∷ ws))

abbrev pub first_typed : typed.VolumeNumber → VolumeNumber
first_typed f = record { volume = f.volume; number = f.number }

-- THE CHOICE OF AN ARCHIVE OF VOLUMES THAT IS TYPED
abbrev pub volume_choice_typed : TypedChoice → VolumeChoice
volume_choice_typed t = record {
  numbers = volume_spans_typed t.of_volumes.items;
  first = option_map first_typed t.from;
  others = choice_typed t.alone;
}

-- the records of an archive that are asked for, from the number on that is typed
abbrev pub chosen_typed : Question → words.Choice → Archive → List Record
chosen_typed q d a = chosen_from q (choice_typed d) d.from a

-- THE CHOICE FOR A VOLUME asks for those of its records that are chosen of all volumes; where there is none, none of its records is
abbrev pub IsChoiceIn : TypedChoice → (volume : ℕ) → Option words.Choice → Type 0
IsChoiceIn t v None = (q : Question) (a : Archive) → chosen_in q (volume_choice_typed t) v a ≡ []
IsChoiceIn t v (Some d) = (q : Question) (a : Archive) → chosen_typed q d a ≡ chosen_in q (volume_choice_typed t) v a
