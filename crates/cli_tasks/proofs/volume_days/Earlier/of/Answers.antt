use Rattle.std.proofs.Common.{◌∙◌, ◌-◌, ap, ℕ}
use Rattle.cli_tasks.proofs.BackLaws.{before_number}
use Rattle.cli_tasks.proofs.volume_days.Earlier.of.Goals as goal

pub returns-clause-last : goal.returns-clause-last
returns-clause-last g c = c.saturating_sub.ensures ∙ ap (λ (n : ℕ). n - 1) c.unwrap_or.ensures ∙ before_number c.args.volume
