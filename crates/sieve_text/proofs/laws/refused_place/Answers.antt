use Rattle.sieve_text.proofs.CutLaws.{refusals_law, faults_law}
use Rattle.sieve_text.proofs.laws.refused_place.Goals as goal

pub returns-clause-at : goal.returns-clause-at
returns-clause-at c = refusals_law

pub returns-clause-some : goal.returns-clause-some
returns-clause-some c = faults_law
