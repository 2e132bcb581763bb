use Rattle.std.proofs.Common.{◌≡◌, map, length}
use Rattle.tool_texts.proofs.Typed.{pending}
use Rattle.tool_texts.proofs.framing.typed_words.Given as goal

-- the words so far stand before the rest
abbrev pub invariant-loop-words : goal.invariant-loop-words
invariant-loop-words l = pending (map (λ w. w.now) l.words.items) l.rest ≡ l.line

abbrev pub decreases-loop-words : goal.decreases-loop-words
decreases-loop-words l = length l.rest
