use Rattle.desk_commands.proofs.Alone.{fault_ends, pinned_alone}
use Rattle.desk_commands.proofs.laws.pinned_runs_end_alone.Goals as goal

pub returns-clause-alone : goal.returns-clause-alone
returns-clause-alone c = pinned_alone

pub returns-clause-too_heavy : goal.returns-clause-too_heavy
returns-clause-too_heavy c = fault_ends
