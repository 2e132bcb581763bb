use Rattle.std.proofs.Common.{◌≡◌}
use Rattle.tool_findings.specs.Judgements.{Rises}
use Rattle.tool_findings.proofs.Rising.{last_of}
use Rattle.tool_findings.proofs.findings.rising.Given as goal

abbrev pub invariant-loop-finding : goal.invariant-loop-finding
invariant-loop-finding l = record {
  rises : Rises l.verdict l.others.items;
  last : l.last ≡ last_of l.verdict l.others.items;
}
