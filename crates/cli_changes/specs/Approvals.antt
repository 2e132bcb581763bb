-- Which numbers a file of approved numbers means.
use Rattle.std.specs.Prelude.{◌≡◌, ℕ, ◌==◌, ◌&&◌, not, Bool, true, false, List, [], ◌∷◌, length, filter, flat_map, if◌then◌else◌}
use Rattle.std.specs.Prelude.{Some, codes, is_none, nat_eq, IfSome}
use Rattle.std.specs.List.{slice_split, starts_with, find}
use Rattle.std.specs.Char.{is_ascii_whitespace}
use Rattle.choice_words.specs.declared.numbers.TypedNumbers.{TypedNumbers}
use Rattle.choice_words.specs.declared.volumes.VolumeNumbers.{VolumeNumbers}
use Rattle.command_lines.specs.Numbers.{are_numbers}
use Rattle.command_lines.specs.declared.archives.approvals.DisposalAsked.{DisposalAsked}
use Rattle.command_lines.specs.declared.archives.approvals.TypedDisposal.{TypedDisposal}
use Rattle.cli_changes.specs.declared.approved.NoNumbers.{NoNumbers}
use Rattle.cli_changes.specs.declared.approved.NoNumbers.TheVariants.{Word, Empty, NoMemory}

abbrev pub is_line_end : ℕ → Bool
is_line_end octet = octet == 10

-- a word that begins a remark
abbrev pub is_remark : List ℕ → Bool
is_remark word = starts_with nat_eq word (codes "#")

-- the words before a remark, if there is one
abbrev pub before_remark : List (List ℕ) → List (List ℕ)
before_remark [] = []
before_remark (w ∷ ws) = if is_remark w then [] else w ∷ before_remark ws

abbrev pub is_word : List ℕ → Bool
is_word part = not (length part == 0)

-- the words of a line between its blanks, up to a remark
abbrev pub line_words : List ℕ → List (List ℕ)
line_words line = before_remark (filter is_word (slice_split is_ascii_whitespace line))

-- THE WORDS OF A FILE of approved numbers: those of its lines, in their order. Each is a number or a range, perhaps with a volume, or the
-- file is refused.
abbrev pub file_words : List ℕ → List (List ℕ)
file_words text = flat_map line_words (slice_split is_line_end text)

-- a word that is no numbers
abbrev pub is_other : List ℕ → Bool
is_other word = not (are_numbers word)

-- WHY THESE WORDS ARE REFUSED: the first one that is no numbers, or there is no word; or no memory
abbrev pub IsRefused : List (List ℕ) → NoNumbers → Type 0
IsRefused words (Word w) = find is_other words ≡ Some w.items
IsRefused words Empty = words ≡ []
IsRefused words NoMemory = Unit {0}

-- there is no number, without a volume or with one
abbrev pub are_none : (alone : List TypedNumbers) → (of_volumes : List VolumeNumbers) → Bool
are_none alone of_volumes = (length alone == 0) && (length of_volumes == 0)

-- ---- the disposal

-- IT IS AS IT IS TYPED: whether records are destroyed, also those with altered messages, and by which day. Its numbers are those that are
-- typed, or, where a file of approved ones is named, there is one at least.
pub record IsAsTyped (asked : DisposalAsked) (typed : TypedDisposal) : Type 0 where
  pub destroys : typed.alone.destroys ≡ asked.typed.alone.destroys
  pub is_damaged : typed.alone.is_damaged ≡ asked.typed.alone.is_damaged
  pub day : typed.alone.day ≡ asked.typed.alone.day
  pub numbers : is_none asked.approved ≡ true → typed ≡ asked.typed
  pub approved : IfSome asked.approved (λ path. are_none typed.alone.numbers.items typed.of_volumes.items ≡ false)
