use Rattle.std.proofs.Common.{◌≡◌, ◌≤◌, ◌^◌, map, drop}
use Rattle.record_tables.specs.CodeRows.{record_of}
use Rattle.record_archive.specs.Archive.{past_all}
use Rattle.record_adoption.proofs.tallies.next_after.Given as goal

abbrev pub invariant-loop-record : goal.invariant-loop-record
invariant-loop-record l = record {
  so_far : past_all l.next (map record_of (drop l.record-index l.records)) ≡ past_all 1 (map record_of l.records);
  small : l.next ≤ 2 ^ 32;
}
