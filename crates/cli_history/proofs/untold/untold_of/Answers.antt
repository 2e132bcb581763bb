use Rattle.cli_history.proofs.WalkLemmas.{looks_on, looks_still}
use Rattle.cli_history.proofs.untold.untold_of.Goals as goal

pub loop-init : goal.loop-init
loop-init g c = looks_still g.S.Store c.args.noted.now

pub loop-preserved : goal.loop-preserved
loop-preserved g c =
    looks_on g.S.Store c.args.noted.now c.loop.noted c.next_page.new.noted c.loop.invariant c.next_page.ensures.looks
