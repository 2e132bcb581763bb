use Rattle.std.proofs.Common.{◌≡◌, ◌++◌, map, take, drop}
use Rattle.record_judge.specs.Indexes.{IsRecordIndex}
use Rattle.record_judge.specs.Sealed.{marked}
use Rattle.record_judge.proofs.record_index.mark_each.Given as goal

abbrev pub invariant-loop-place : goal.invariant-loop-place
invariant-loop-place l = record {
  rows : l.rows ≡ map (marked l.number) (take l.place l.initial.rows) ++ drop l.place l.initial.rows;
  index : IsRecordIndex l.initial.index l.initial.rows → IsRecordIndex l.index l.rows;
}
