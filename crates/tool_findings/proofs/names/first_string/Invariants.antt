use Rattle.std.proofs.Common.{◌≡◌, drop}
use Rattle.tool_findings.specs.Commands.{first_string}
use Rattle.tool_findings.proofs.names.first_string.Given as goal

abbrev pub invariant-loop-token : goal.invariant-loop-token
invariant-loop-token l = first_string (drop l.token-index l.tokens) ≡ first_string l.tokens
