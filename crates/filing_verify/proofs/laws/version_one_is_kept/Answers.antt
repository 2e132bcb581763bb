use Rattle.filing_verify.proofs.Kept.{accepted, refused}
use Rattle.filing_verify.proofs.laws.version_one_is_kept.Goals as goal

pub returns-clause-accepted : goal.returns-clause-accepted
returns-clause-accepted c = accepted

pub returns-clause-refused : goal.returns-clause-refused
returns-clause-refused c = refused
