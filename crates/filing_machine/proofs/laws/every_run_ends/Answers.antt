use Rattle.filing_machine.proofs.Sound.{never_traps}
use Rattle.filing_machine.proofs.Ends.{ends_within}
use Rattle.filing_machine.proofs.laws.every_run_ends.Goals as goal

pub returns-clause-never_traps : goal.returns-clause-never_traps
returns-clause-never_traps s = λ p c n well. never_traps p c well n

pub returns-clause-ends : goal.returns-clause-ends
returns-clause-ends s = ends_within
