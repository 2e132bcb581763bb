use Rattle.std.proofs.Common.{◌≡◌, [], length, fold, flat_map}
use Rattle.mail_head.specs.Fields.{fields_of}
use Rattle.mail_display.specs.Undecoded.{words_in, with_word}
use Rattle.mail_display.proofs.undecoded.undecoded_words.Given as goal

abbrev pub invariant-loop-found : goal.invariant-loop-found
invariant-loop-found l =
    fold with_word l.words.items (flat_map words_in (fields_of l.rest)) ≡ fold with_word [] (flat_map words_in (fields_of l.message))

abbrev pub decreases-loop-found : goal.decreases-loop-found
decreases-loop-found l = length l.rest
