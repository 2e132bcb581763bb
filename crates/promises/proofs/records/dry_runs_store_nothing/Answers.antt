use Rattle.promises.proofs.RecordLemmas.{file_says, try_says}
use Rattle.promises.proofs.records.dry_runs_store_nothing.Goals as goal

pub returns-clause-file : goal.returns-clause-file
returns-clause-file c = λ s new script message o h. (file_says s script message o new h).0

pub returns-clause-filed_alone : goal.returns-clause-filed_alone
returns-clause-filed_alone c = λ s new script message o h. let says = file_says s script message o new h in (says.1, says.2)

pub returns-clause-trial : goal.returns-clause-trial
returns-clause-trial c = λ s new octets message o h.
    (try_says c.every_run_ends.ensures.ends c.a_run_ends_once.ensures.steps s octets message o new h).0

pub returns-clause-tried_alone : goal.returns-clause-tried_alone
returns-clause-tried_alone c = λ s new octets message o h. let says =
    try_says c.every_run_ends.ensures.ends c.a_run_ends_once.ensures.steps s octets message o new h in (says.1, says.2)
