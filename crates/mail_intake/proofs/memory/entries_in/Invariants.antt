use Rattle.std.proofs.Common.{◌≡◌, ◌++◌, map, length}
use Rattle.mail_intake.specs.Telling.{entries_of, told_view}
use Rattle.mail_intake.proofs.memory.entries_in.Given as goal

abbrev pub invariant-loop-rest : goal.invariant-loop-rest
invariant-loop-rest l =
    map told_view l.told.items ++ entries_of (map (λ f. f.now) l.rest) ≡ entries_of (map (λ f. f.now) l.fn.fields)

abbrev pub decreases-loop-rest : goal.decreases-loop-rest
decreases-loop-rest l = length l.rest
