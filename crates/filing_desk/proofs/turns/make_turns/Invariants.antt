use Rattle.std.proofs.Common.{◌≤◌, ◌+◌, ◌-◌, ℕ, [], ◌∷◌, Ok}
use Rattle.desk_commands.specs.CallAnswers.{answer_of_turn}
use Rattle.filing_desk.specs.Deliveries.{Follows, Lasts, turns}
use Rattle.filing_desk.specs.Standing.{desk_keeper}
use Rattle.filing_desk.proofs.turns.make_turns.Given as goal

abbrev pub invariant-turns : goal.invariant-turns
invariant-turns g l = record {
  within : l.made ≤ l.budget;
  asks : (times : ℕ) × (l.made ≤ times + 1) × Lasts g.P.Patience.asked l.fn.patience times l.patience;
  follows : Follows (desk_keeper g.A.Records.keeper) l.fn.desk (turns l.ticket l.made (answer_of_turn (Ok l.turn)) ∷ []) l.desk;
}

abbrev pub decreases-turns : goal.decreases-turns
decreases-turns g l = l.budget - l.made
