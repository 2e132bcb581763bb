use Rattle.sieve_text.proofs.ScanLemmas.{some_verdict as always_some}
use Rattle.sieve_text.proofs.laws.some_verdict.Goals as goal

pub returns : goal.returns
returns c = always_some
