-- What is asked of the history of one volume.
use Rattle.std.specs.Prelude.{◌≡◌, ℕ}
use Rattle.choice_words.specs.Typed.{numbers_for}
use Rattle.command_lines.specs.declared.archives.histories.HistoryAsked.{HistoryAsked}
use Rattle.command_lines.specs.declared.archives.histories.TypedHistory.{TypedHistory}

-- WHAT IS ASKED OF A VOLUME ALONE: its numbers, and all else as it is typed
pub record IsAskedFor (v : ℕ) (typed : TypedHistory) (asked : HistoryAsked) : Type 0 where
  pub numbers : asked.numbers.items ≡ numbers_for v typed.of_volumes.items
  pub rest : asked ≡ record typed.alone { numbers = asked.numbers }
