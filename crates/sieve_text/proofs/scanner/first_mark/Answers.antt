use Rattle.sieve_text.proofs.FrontLemmas.{mark_first_in}
use Rattle.sieve_text.proofs.scanner.first_mark.Goals as goal

pub returns-in-len1-up : goal.returns-in-len1-up
returns-in-len1-up c = mark_first_in c.args.text.now c.mark.result c.mark.ensures
