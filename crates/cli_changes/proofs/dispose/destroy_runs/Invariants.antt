use Rattle.std.proofs.Common.{take, true, List}
use Rattle.jiff.specs.Words.{epoch_day}
use Rattle.record_archive.specs.Archive.{Archive}
use Rattle.record_choice.specs.Disposals.{Certificate, HandsOver}
use Rattle.record_ledger.specs.Ledgers.{KeptFor}
use Rattle.cli_changes.specs.Certificates.{IsTaken}
use Rattle.cli_changes.specs.Destructions.{EachOnce, IsDisposal, IsRead}
use Rattle.cli_changes.specs.Runs.{AreFilled, records_of}
use Rattle.cli_changes.proofs.dispose.destroy_runs.Given as goal

abbrev pub invariant-loop-run : goal.invariant-loop-run
invariant-loop-run g l = record {
  falls : IsRead g.S.Store l.archive → IsRead g.S.Store l.fn.archive;
  these : (cs : List Certificate) × HandsOver (IsTaken g.P.Printer.prints) l.fn.certificates cs l.certificates
      × (IsRead g.S.Store l.archive → (a : Archive) → KeptFor g.S.Store l.fn.archive.kept a → AreFilled l.runs
      → EachOnce (records_of l.runs)
      → IsDisposal (KeptFor g.S.Store l.archive.kept) (epoch_day l.day) (records_of (take l.run-index l.runs)) true cs a);
}
