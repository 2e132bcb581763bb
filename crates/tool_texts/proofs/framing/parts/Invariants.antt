use Rattle.std.proofs.Common.{◌≡◌, map, take}
use Rattle.tool_texts.specs.Framing.{word_of}
use Rattle.tool_texts.proofs.framing.parts.Given as goal

-- the parts so far are the words so far
abbrev pub invariant-loop-index : goal.invariant-loop-index
invariant-loop-index l = map word_of l.parts.items ≡ map (λ w. w.now) (take l.index l.word-items)
