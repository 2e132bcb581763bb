use Rattle.promises.proofs.ImageLemmas.{ends, never_traps, one_end}
use Rattle.promises.proofs.Verdicts.{one_image}
use Rattle.promises.proofs.images.accepted_images_run_to_their_end.Goals as goal

pub returns-clause-program : goal.returns-clause-program
returns-clause-program c = one_image c.one_spelling.ensures

pub returns-clause-never_traps : goal.returns-clause-never_traps
returns-clause-never_traps c = never_traps c.every_run_ends.ensures.never_traps

pub returns-clause-ends : goal.returns-clause-ends
returns-clause-ends c = ends c.every_run_ends.ensures.ends

pub returns-clause-once : goal.returns-clause-once
returns-clause-once c = one_end c.a_run_ends_once.ensures.outcome
