use Rattle.record_tables.proofs.Loops.{written}
use Rattle.record_tables.proofs.Statements.{refiles}
use Rattle.record_tables.proofs.writes.set_path.Goals as goal

pub returns : goal.returns
returns g c = written g.S.Store _ _ _ (rw c.to_sql.ensures at c.run.ensures) (refiles _ _ c.args.number c.args.path.now)
