use Rattle.std.proofs.Common.{◌≡◌, ◌<◌, length}
use Rattle.std.specs.List.{All}
use Rattle.filing_gen.specs.Ends.{with_jumps}
use Rattle.filing_gen.proofs.ends.end_branches.Given as goal

abbrev pub invariant-loop-place : goal.invariant-loop-place
invariant-loop-place l = record {
  out : with_jumps l.end l.jumps.items l.out ≡ with_jumps l.end l.initial.jumps.items l.initial.out;
  places : All (λ p. p < length l.out.code.items) l.jumps.items;
}

abbrev pub decreases-loop-place : goal.decreases-loop-place
decreases-loop-place l = l.jumps.len
