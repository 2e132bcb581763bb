use Rattle.std.proofs.Common.{◌≡◌, ◌+◌, ◌-◌, ◌≤◌, ◌++◌, length, take}
use Rattle.std.specs.Vec.{vec_capacity, vec_len}
use Rattle.filing_machine.proofs.places.append_wide.Given as goal

abbrev pub invariant-loop-place : goal.invariant-loop-place
invariant-loop-place l = record {
  items : l.places.items ≡ l.fn.places.items ++ take l.place-index l.narrow;
  room : (vec_len l.places + (length l.narrow - l.place-index)) + length l.wide ≤ vec_capacity l.places;
}
