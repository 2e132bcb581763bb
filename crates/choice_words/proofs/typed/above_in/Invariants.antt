use Rattle.std.proofs.Common.{◌≡◌, drop}
use Rattle.std.specs.List.{find}
use Rattle.choice_words.specs.Typed.{is_above}
use Rattle.choice_words.proofs.typed.above_in.Given as goal

abbrev pub invariant-loop-word : goal.invariant-loop-word
invariant-loop-word l = find (is_above l.last) (drop l.word-index l.words) ≡ find (is_above l.last) l.words
