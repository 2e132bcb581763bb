use Rattle.std.proofs.Common.{take}
use Rattle.record_archive.specs.Archive.{Archive}
use Rattle.cli_changes.specs.Series.{IsTriedOn}
use Rattle.cli_changes.proofs.series.change_each.Given as goal

abbrev pub invariant-loop-number : goal.invariant-loop-number
invariant-loop-number g l =
    let keeper = g.C.RecordChange.keeper in
    record {
      falls : keeper.clean l.archive → keeper.clean l.fn.archive;
      tried : keeper.clean l.archive → (a : Archive) → keeper.stands l.fn.archive a
          → IsTriedOn (keeper.stands l.archive) (g.C.RecordChange.command l.fn.change) (take l.number-index l.numbers) a l.changed.is_any
          l.changed.is_refused;
    }
