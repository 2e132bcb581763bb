use Rattle.std.proofs.Common.{◌≡◌, map, take}
use Rattle.std.specs.List.{join_with_byte}
use Rattle.tool_texts.specs.Framing.{session_word}
use Rattle.tool_texts.proofs.framing.framed_line.Given as goal

-- the line so far has the words so far
abbrev pub invariant-loop-index : goal.invariant-loop-index
invariant-loop-index l = l.line.items ≡ join_with_byte 32 (take l.index (map session_word l.words))
