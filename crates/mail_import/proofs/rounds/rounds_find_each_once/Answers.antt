use Rattle.mail_import.proofs.SourceLaws.{files_joined, mbox_joined}
use Rattle.mail_import.proofs.rounds.rounds_find_each_once.Goals as goal

pub returns-clause-boxed : goal.returns-clause-boxed
returns-clause-boxed c = mbox_joined

pub returns-clause-filed : goal.returns-clause-filed
returns-clause-filed c = files_joined
