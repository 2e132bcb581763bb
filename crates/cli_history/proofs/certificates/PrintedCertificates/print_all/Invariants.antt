use Rattle.std.proofs.Common.{ℕ, List}
use Rattle.sqlite.specs.State.{HasCleanDisk}
use Rattle.sqlite.specs.Held.{state}
use Rattle.record_archive.specs.Archive.{Archive}
use Rattle.record_noted.specs.Histories.{StandsWith, rows_of}
use Rattle.record_tables.specs.Events.{Event as Row}
use Rattle.cli_history.specs.Certified.{Certifies}
use Rattle.cli_history.specs.Walks.{Looks}
use Rattle.cli_history.proofs.WalkLemmas.{Walked}
use Rattle.cli_history.proofs.certificates.PrintedCertificates.print_all.Given as goal

abbrev pub invariant-loop : goal.invariant-loop
invariant-loop g l = record {
  looks : Looks g.S.Store l.fn.noted l.noted;
  walked : HasCleanDisk (state g.S.Store l.noted.store.conn) → (a : Archive) (ls : List (List ℕ)) → StandsWith g.S.Store l.fn.noted a ls
      → Walked (λ (rows : List Row). Certifies g.K.Sink.written l.fn.self l.fn.sink rows l.self l.sink) (rows_of ls) l.events.from l.counter;
}
