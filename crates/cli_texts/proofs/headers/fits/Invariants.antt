use Rattle.cli_texts.proofs.CutLemmas.{FitsSoFar}
use Rattle.cli_texts.proofs.headers.fits.Given as goal

abbrev pub invariant-loop-c : goal.invariant-loop-c
invariant-loop-c l = FitsSoFar l.most l.left l.yielded
