use Rattle.sieve_text.proofs.StrayLemmas.{stray_unfound}
use Rattle.sieve_text.proofs.scanner.octets.stray_length.Goals as goal

pub returns-in-None-clause-value : goal.returns-in-None-clause-value
returns-in-None-clause-value c = stray_unfound c.args.script.now c.in-None.ensures
