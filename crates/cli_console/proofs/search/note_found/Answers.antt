use Rattle.record_choice.specs.Entries.{entry_view}
use Rattle.cli_console.specs.Finds.{singles_among}
use Rattle.std.proofs.Common.{◌++◌, map}
use Rattle.cli_console.proofs.Noted.{noted_on}
use Rattle.cli_console.proofs.search.note_found.Goals as goal

pub loop-entry-preserved : goal.loop-entry-preserved
loop-entry-preserved c =
    noted_on c.args.typed.now c.args.entries.now c.entry-item.result c.loop-entry.entry-index c.loop-entry.found.items
    c.note_single.new.found.items (c.args.found.now.items ++ singles_among c.args.typed.now (map entry_view c.args.entries.now))
    c.loop-entry-test.true c.entry-item.is c.in_ok-note_single.ensures c.loop-entry.invariant
