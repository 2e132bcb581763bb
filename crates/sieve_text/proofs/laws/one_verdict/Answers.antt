use Rattle.sieve_text.proofs.ScanLemmas.{no_both, one_fault}
use Rattle.sieve_text.proofs.laws.one_verdict.Goals as goal

pub returns-clause-tokens : goal.returns-clause-tokens
returns-clause-tokens c = no_both

pub returns-clause-refusal : goal.returns-clause-refusal
returns-clause-refusal c = one_fault
