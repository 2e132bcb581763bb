use Rattle.std.proofs.Common.{◌∙◌}
use Rattle.cli_history.proofs.FindingLemmas.{blocked_at}
use Rattle.cli_history.proofs.findings.Findings.blocks.Goals as goal

pub returns-clause-told : goal.returns-clause-told
returns-clause-told c = λ es same. c.is_blocked.ensures ∙ blocked_at c.args.purpose c.args.self.now.stage es same
