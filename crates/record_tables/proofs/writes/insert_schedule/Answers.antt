use Rattle.record_tables.specs.CodeRows.{rule_of}
use Rattle.record_tables.proofs.Loops.{written}
use Rattle.record_tables.proofs.Statements.{puts_schedule}
use Rattle.record_tables.proofs.writes.insert_schedule.Goals as goal

pub returns : goal.returns
returns g c =
    written g.S.Store _ _ _ (rw (
      c.as_slice.ensures.value,
      c.to_sql.ensures,
      c.to_sql-2.ensures,
      c.to_sql-3.ensures,
      c.to_sql-4.ensures,
    ) at c.run.ensures) (puts_schedule _ _ (rule_of c.args.schedule.now))
