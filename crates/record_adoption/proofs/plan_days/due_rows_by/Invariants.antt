use Rattle.std.proofs.Common.{◌≡◌, map, take}
use Rattle.record_tables.specs.Changes.{AreAscending}
use Rattle.record_tables.specs.CodeRows.{due_of, record_of}
use Rattle.record_adoption.specs.Keeping.{dues_in}
use Rattle.record_adoption.proofs.plan_days.due_rows_by.Given as goal

abbrev pub invariant-loop-row : goal.invariant-loop-row
invariant-loop-row l = record {
  rows : map due_of l.dues.items ≡ dues_in l.plan (map record_of (take l.row-index l.records));
  ascending : AreAscending (map due_of l.dues.items);
}
