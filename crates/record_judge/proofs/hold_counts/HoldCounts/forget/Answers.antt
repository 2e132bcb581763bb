use Rattle.record_judge.proofs.HoldLemmas.{forgotten}
use Rattle.record_judge.proofs.hold_counts.HoldCounts.forget.Goals as goal

pub returns : goal.returns
returns c = λ k.
    forgotten c.args.self.now (record { counts = c.remove-count.new.self }) c.args.key.now k (c.remove-count.ensures.updates.0 k)
