use Rattle.std.proofs.Common.{◌≡◌, take}
use Rattle.tool_inquiry.specs.Partings.{words_of}
use Rattle.tool_inquiry.proofs.partings.first_parting.Given as goal

abbrev pub invariant-loop-number : goal.invariant-loop-number
invariant-loop-number l = take l.number (words_of l.one) ≡ take l.number (words_of l.other)
