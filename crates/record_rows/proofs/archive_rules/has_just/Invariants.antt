use Rattle.std.proofs.Common.{◌≡◌, ◌≤◌, length, drop}
use Rattle.std.specs.Str.{bytes_eq}
use Rattle.record_rows.proofs.archive_rules.has_just.Given as goal

abbrev pub invariant-loop-key : goal.invariant-loop-key
invariant-loop-key l = record {
  can : (goal.iterator-loop-key).can_next l.key-iterator;
  finite : (goal.iterator-loop-key).is_finite l.key-iterator;
  within : l.place ≤ length l.numbers;
  kept : bytes_eq l.set.keys l.numbers ≡ bytes_eq l.key-iterator (drop l.place l.numbers);
}
