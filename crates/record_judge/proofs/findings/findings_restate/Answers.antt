use Rattle.record_judge.proofs.FindingLemmas.{all_restate}
use Rattle.record_judge.proofs.findings.findings_restate.Goals as goal

pub returns : goal.returns
returns c = all_restate
