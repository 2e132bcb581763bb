use Rattle.std.proofs.Common.{refl}
use Rattle.cli_changes.proofs.import.MailImport.read.Goals as goal

pub returns-clause-terms : goal.returns-clause-terms
returns-clause-terms c = record { dating = c.in_ok-dating.ensures; is_again = refl }
