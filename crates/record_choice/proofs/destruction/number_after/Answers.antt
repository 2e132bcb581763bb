use Rattle.std.proofs.Common.{◌∙◌, ap, arith}
use Rattle.record_choice.specs.Entries.{entry_view}
use Rattle.record_choice.specs.Walks.{above}
use Rattle.record_choice.proofs.Keepers.{last_on, last_ended}
use Rattle.record_choice.proofs.destruction.number_after.Goals as goal

pub loop-entry-preserved : goal.loop-entry-preserved
loop-entry-preserved c =
    last_on entry_view c.args.entries.now c.loop-entry.last c.entry-item.result c.loop-entry.entry-index
    c.loop-entry-test.true c.entry-item.is c.loop-entry.invariant

pub returns : goal.returns
returns c =
    c.number_above.ensures
    ∙ ap above (last_ended entry_view c.args.entries.now c.loop-entry.last c.loop-entry.entry-index (omega arith) c.loop-entry.invariant)
