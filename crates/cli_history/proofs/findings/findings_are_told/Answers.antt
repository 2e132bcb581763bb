use Rattle.cli_history.proofs.FindingLemmas.{stage_tells}
use Rattle.cli_history.proofs.findings.findings_are_told.Goals as goal

pub returns : goal.returns
returns c = stage_tells
