use Rattle.std.proofs.Common.{◌≡◌, [], ℕ, List, None}
use Rattle.sqlite.specs.State.{HasCleanDisk}
use Rattle.sqlite.specs.Held.{state}
use Rattle.record_archive.specs.Archive.{Archive}
use Rattle.record_noted.specs.Histories.{rows_of}
use Rattle.record_store.specs.Stores.{StandsFor}
use Rattle.cli_history.specs.OneSeal.{IsEnoughFor, IsSealIn}
use Rattle.cli_history.specs.Tellings.{AreTold}
use Rattle.cli_history.specs.Walks.{Glances, HasLines}
use Rattle.cli_history.proofs.WalkLemmas.{Walked}
use Rattle.cli_history.proofs.seals.Seals.take_all.Given as goal

abbrev pub invariant-loop : goal.invariant-loop
invariant-loop g l = record {
  glances : Glances g.S.Store l.fn.archive l.archive;
  walked : l.fn.only ≡ None → AreTold l.fn.self [] → HasCleanDisk (state g.S.Store l.archive.conn) → (a : Archive) (ls : List (List ℕ))
      → StandsFor g.S.Store l.fn.archive a → HasLines g.S.Store l.fn.archive ls → Walked (AreTold l.self) (rows_of ls) l.events.from l.counter;
  sealed : (message : ℕ) → IsEnoughFor message l.fn.only → IsSealIn message l.fn.self [] → HasCleanDisk (state g.S.Store l.archive.conn)
      → (a : Archive) (ls : List (List ℕ)) → StandsFor g.S.Store l.fn.archive a → HasLines g.S.Store l.fn.archive ls
      → Walked (IsSealIn message l.self) (rows_of ls) l.events.from l.counter;
}
