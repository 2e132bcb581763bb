-- The words that are still to be taken of a line.
use Rattle.std.specs.Prelude.{ℕ, List, [], Option, Some, None}
use denote.Ref.{Bor}
use Rattle.session_words.specs.Words.{words_of}
use Rattle.session_protocol.specs.declared.words.Words.{Words}

abbrev pub words_after : Option (Bor (List ℕ)) → List (List ℕ)
words_after None = []
words_after (Some rest) = words_of rest.now

abbrev pub words_left : Words → List (List ℕ)
words_left w = words_after w.rest
