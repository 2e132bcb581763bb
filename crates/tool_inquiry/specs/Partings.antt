-- Where two runs part.
use Rattle.std.specs.Prelude.{◌≡◌, ℕ, List, map, take, codes, option_map, unwrap_or, slice_get, string_bytes}
use Rattle.tool_inquiry.specs.declared.partings.Events.{Events}
use Rattle.tool_inquiry.specs.declared.partings.Parting.{Parting}

-- what the events of a run come to, wherever they stand in the text of a script
abbrev pub words_of : Events → List (List ℕ)
words_of run = map (λ e. string_bytes e.words) run.list.items

-- what is shown of the event of this number
abbrev pub line_of : Events → ℕ → List ℕ
line_of run number = unwrap_or (option_map (λ e. string_bytes e.line) (slice_get run.list.items number)) (codes "the run ends")

-- this is the first number at which two runs differ
pub record PartsAt (one other : Events) (number : ℕ) : Type 0 where
  pub before : take number (words_of one) ≡ take number (words_of other)
  pub there : slice_get (words_of one) number ≡ slice_get (words_of other) number → ⊥

-- the first event in which two runs differ, as each of them has it
pub record IsParting (one other : Events) (p : Parting) : Type 0 where
  pub number : ℕ
  pub first : PartsAt one other number
  pub one_is : p.one.now ≡ line_of one number
  pub other_is : p.other.now ≡ line_of other number
