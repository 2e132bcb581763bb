use Rattle.std.proofs.Common.{get_or, take}
use Rattle.std.proofs.lemmas.List.{take_more}
use Rattle.record_choice.proofs.Asked.{set_more}
use Rattle.record_volumes.proofs.rows.set_of.Goals as goal

pub loop-number-preserved : goal.loop-number-preserved
loop-number-preserved c =
    rw (take_more c.args.numbers.now c.loop-number.number-index 0 c.loop-number-test.true)
    (set_more c.loop-number.set c.insert.new.self (take c.loop-number.number-index c.args.numbers.now)
    (get_or c.args.numbers.now c.loop-number.number-index 0) c.in_ok-_new.ensures.updates c.loop-number.invariant)
