use Rattle.std.proofs.Common.{map, take}
use Rattle.record_reads.specs.Events.{event_of}
use Rattle.cli_history.specs.Certified.{Certifies}
use Rattle.cli_history.specs.Walks.{Looks}
use Rattle.cli_history.proofs.certificates.PrintedCertificates.print_page.Given as goal

abbrev pub invariant-loop-row : goal.invariant-loop-row
invariant-loop-row g l = record {
  looks : Looks g.S.Store l.fn.noted l.noted;
  certified : Certifies g.K.Sink.written l.fn.self l.fn.sink (map event_of (take l.row-index l.page)) l.self l.sink;
}
