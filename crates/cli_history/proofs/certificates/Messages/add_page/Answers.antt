use Rattle.cli_history.proofs.WalkLemmas.{looks_on, looks_still}
use Rattle.cli_history.proofs.certificates.Messages.add_page.Goals as goal

pub loop-row-init : goal.loop-row-init
loop-row-init g c = looks_still g.S.Store c.args.noted.now

pub loop-row-preserved : goal.loop-row-preserved
loop-row-preserved g c =
    looks_on g.S.Store c.args.noted.now c.loop-row.noted c.add.new.noted c.loop-row.invariant c.add.ensures
