use Rattle.std.proofs.Common.{◌≡◌, ℕ, List, map, take}
use Rattle.std.specs.Borrow.{Bor}
use Rattle.std.specs.BTreeMap.{get}
use Rattle.std.specs.Ordering.{nat_cmp}
use Rattle.cli_history.specs.Compared.{names_in}
use Rattle.cli_history.specs.Made.{names_of}
use Rattle.cli_history.proofs.comparison.holds_of.Given as goal

abbrev pub invariant-loop-hold : goal.invariant-loop-hold
invariant-loop-hold l = (n : ℕ) → map (λ (name : Bor (List ℕ)). name.now) (names_in (get nat_cmp l.held n))
    ≡ names_of (take l.hold-index l.holds) n
