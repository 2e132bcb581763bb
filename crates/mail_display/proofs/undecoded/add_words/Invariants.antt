use Rattle.std.proofs.Common.{◌≡◌, length, fold}
use Rattle.mail_display.specs.Undecoded.{with_word}
use Rattle.mail_display.proofs.UndecodedLemmas.{words_of}
use Rattle.mail_display.proofs.undecoded.add_words.Given as goal

abbrev pub invariant-loop-following : goal.invariant-loop-following
invariant-loop-following l =
    fold with_word l.words.items (words_of l.field l.rest) ≡ fold with_word l.initial.words.items (words_of l.field l.value)

abbrev pub decreases-loop-following : goal.decreases-loop-following
decreases-loop-following l = length l.rest
