use Rattle.std.proofs.Common.{◌≡◌, take}
use Rattle.choice_words.specs.Typed.{numbers_for}
use Rattle.choice_words.proofs.typed.numbers_for.Given as goal

abbrev pub invariant-loop-word : goal.invariant-loop-word
invariant-loop-word l = l.numbers.items ≡ numbers_for l.volume (take l.word-index l.words)
