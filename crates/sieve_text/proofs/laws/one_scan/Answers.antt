use Rattle.sieve_text.proofs.ScanLemmas.{one_scan as only_one}
use Rattle.sieve_text.proofs.laws.one_scan.Goals as goal

pub returns : goal.returns
returns c = only_one
