use Rattle.std.proofs.Common.{◌≡◌, ◌++◌, drop, map}
use Rattle.cli_texts.specs.Undecoded.{undecoded_words}
use Rattle.cli_texts.proofs.headers.lines_of.Given as goal

abbrev pub invariant-loop-word : goal.invariant-loop-word
invariant-loop-word l = l.lines.items ++ map undecoded_words (drop l.word-index l.words) ≡ map undecoded_words l.words
