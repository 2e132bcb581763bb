use Rattle.std.proofs.Common.{map, take}
use Rattle.filing_procedures.specs.ReachTables.{AreFurther}
use Rattle.filing_procedures.proofs.reach.reached_round.Given as goal

abbrev pub invariant-loop-row : goal.invariant-loop-row
invariant-loop-row l = AreFurther (map (λ r. r.items) (take l.row-index l.rows)) l.sets l.next.items
