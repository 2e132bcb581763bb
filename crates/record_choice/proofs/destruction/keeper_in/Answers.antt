use Rattle.std.proofs.Common.{◌∙◌, ap, arith, sym, option_map}
use Rattle.record_choice.specs.Entries.{RecordEntry, entry_view}
use Rattle.record_choice.specs.Disposals.{keeps_entry}
use Rattle.record_choice.proofs.Keepers.{search_on, search_found, search_ended}
use Rattle.record_choice.proofs.destruction.keeper_in.Goals as goal

pub loop-entry-preserved : goal.loop-entry-preserved
loop-entry-preserved c =
    search_on entry_view c.args.entries.now (keeps_entry c.args.message c.args.number) c.entry-item.result c.loop-entry.entry-index
    c.loop-entry-test.true c.entry-item.is (sym c.is_keeper.ensures ∙ c.if-is_keeper.false) c.loop-entry.invariant

pub returns-then-is_keeper : goal.returns-then-is_keeper
returns-then-is_keeper c =
    ap (option_map (λ (e : RecordEntry). e.number))
    (search_found entry_view c.args.entries.now (keeps_entry c.args.message c.args.number) c.entry-item.result c.loop-entry.entry-index
    c.loop-entry-test.true c.entry-item.is (sym c.is_keeper.ensures ∙ c.if-is_keeper.true) c.loop-entry.invariant)

pub returns : goal.returns
returns c =
    ap (option_map (λ (e : RecordEntry). e.number))
    (search_ended entry_view c.args.entries.now (keeps_entry c.args.message c.args.number) c.loop-entry.entry-index
    (omega arith) c.loop-entry.invariant)
