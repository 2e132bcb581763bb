use Rattle.std.proofs.Common.{◌≡◌, length}
use Rattle.tool_findings.specs.Cutting.{IsCut}
use Rattle.tool_findings.proofs.fronts.fronts_of.Given as goal

abbrev pub invariant-loop-number : goal.invariant-loop-number
invariant-loop-number l = (l.number-end ≡ length l.tokens) × IsCut l.tokens l.number l.cutting
