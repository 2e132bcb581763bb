use Rattle.std.proofs.Common.{rules}
use Rattle.record_tables.proofs.writes.run.Goals as goal

pub returns : goal.returns
returns g c = record {
  ran = λ clean inside. (c.in_ok-execute.field-0, c.in_ok-execute.ensures.runs clean inside);
  frame = search rules;
}
