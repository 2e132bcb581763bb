use Rattle.std.proofs.Common.{◌≡◌, ◌++◌, ℕ, List, None, map, take}
use Rattle.record_tables.specs.Events.{Event as Row}
use Rattle.record_reads.specs.Events.{event_of}
use Rattle.cli_history.specs.OneSeal.{IsEnoughFor, IsSealIn}
use Rattle.cli_history.specs.Tellings.{AreTold}
use Rattle.cli_history.proofs.seals.Seals.take_page.Given as goal

abbrev pub invariant-loop-row : goal.invariant-loop-row
invariant-loop-row l = record {
  told : l.fn.only ≡ None → (rows : List Row) → AreTold l.fn.self rows → AreTold l.self (rows ++ map event_of (take l.row-index l.page));
  seal : (message : ℕ) → IsEnoughFor message l.fn.only → (rows : List Row) → IsSealIn message l.fn.self rows
      → IsSealIn message l.self (rows ++ map event_of (take l.row-index l.page));
}
