use Rattle.record_tables.proofs.Loops.{written}
use Rattle.record_tables.proofs.Statements.{clears_schedules}
use Rattle.record_tables.proofs.writes.clear_schedules.Goals as goal

pub returns : goal.returns
returns g c = written g.S.Store _ _ _ c.run.ensures (clears_schedules _ _)
