use Rattle.std.proofs.Common.{ℕ, List}
use Rattle.sqlite.specs.State.{HasCleanDisk}
use Rattle.sqlite.specs.Held.{state}
use Rattle.record_archive.specs.Archive.{Archive}
use Rattle.record_noted.specs.Histories.{StandsWith}
use Rattle.cli_history.specs.Compared.{HasMet}
use Rattle.cli_history.specs.Walks.{Looks}
use Rattle.cli_history.proofs.MadeLemmas.{WalkedIn}
use Rattle.cli_history.proofs.comparison.Comparison.compare_all.Given as goal

abbrev pub invariant-loop : goal.invariant-loop
invariant-loop g l = record {
  looks : Looks g.S.Store l.fn.noted l.noted;
  walked : HasCleanDisk (state g.S.Store l.noted.store.conn) → (a : Archive) (ls : List (List ℕ)) → StandsWith g.S.Store l.fn.noted a ls
      → WalkedIn (HasMet a l.fn.self l.self) a l.entries.from l.counter;
}
