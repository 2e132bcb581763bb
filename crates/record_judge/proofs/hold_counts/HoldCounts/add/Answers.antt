use Rattle.std.proofs.Common.{arith}
use Rattle.record_judge.proofs.HoldLemmas.{added}
use Rattle.record_judge.proofs.hold_counts.HoldCounts.add.Goals as goal

pub returns : goal.returns
returns c = λ k.
    added c.args.self.now (record { counts = c.insert.new.self }) c.args.key k c.in-Some.sum (grind (arith, c.in-Some.ensures, c.count.ensures))
    (c.in_ok-insert.ensures.updates.0 k)
