use Rattle.cli_history.proofs.WalkLemmas.{glances_on, glances_still}
use Rattle.cli_readings.proofs.export.write_events.Goals as goal

pub loop-init : goal.loop-init
loop-init g c = glances_still g.S.Store c.args.archive.now

pub loop-preserved : goal.loop-preserved
loop-preserved g c =
    glances_on g.S.Store c.args.archive.now c.loop.archive c.next_lines.new.archive c.loop.invariant c.next_lines.ensures
