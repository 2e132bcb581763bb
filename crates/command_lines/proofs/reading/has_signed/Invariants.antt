use Rattle.std.proofs.Common.{◌≡◌, drop}
use Rattle.command_lines.specs.Typed.{has_signed, typed}
use Rattle.command_lines.proofs.reading.has_signed.Given as goal

abbrev pub invariant-loop-word : goal.invariant-loop-word
invariant-loop-word l = has_signed (typed (drop l.word-index l.words)) ≡ has_signed (typed l.words)
