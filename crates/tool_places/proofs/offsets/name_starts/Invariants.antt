use Rattle.std.proofs.Common.{◌≡◌, ◌++◌, drop}
use Rattle.tool_places.specs.Heads.{starts_of}
use Rattle.tool_places.proofs.offsets.name_starts.Given as goal

abbrev pub invariant-loop-token : goal.invariant-loop-token
invariant-loop-token l = l.starts.items ++ starts_of (drop l.token-index l.tokens) ≡ starts_of l.tokens
