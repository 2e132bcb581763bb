use Rattle.std.proofs.Common.{◌≡◌, ◌==◌, ◌++◌, ◌∷◌, [], ℕ, List, arith, cond, get_or, map, rules, subst}
use Rattle.std.specs.Borrow.{Bor}
use Rattle.std.specs.BTreeMap.{get}
use Rattle.std.specs.Ordering.{nat_cmp}
use Rattle.record_judge.specs.declared.sealed.NamedHold.{NamedHold}
use Rattle.cli_history.specs.Compared.{names_in}
use Rattle.cli_history.proofs.ComparisonLemmas.{held_more}
use Rattle.cli_history.proofs.comparison.holds_of.Goals as goal

pub loop-hold-preserved : goal.loop-hold-preserved
loop-hold-preserved c =
    let holds = c.args.holds.now in
    let i = c.loop-hold.hold-index in
    let hold = c.hold-item.result in
    let same : hold ≡ get_or holds i hold = search (rules, arith) in
    let old : ℕ → List (List ℕ) = λ n. map (λ (name : Bor (List ℕ)). name.now) (names_in (get nat_cmp c.loop-hold.held n)) in
    let new : ℕ → List (List ℕ) = λ n. map (λ (name : Bor (List ℕ)). name.now) (names_in (get nat_cmp c.add_name.new.held n)) in
    held_more holds i hold (omega arith) old new
    (subst (λ (h : NamedHold). (n : ℕ) → new n ≡ cond (n == h.number) (old n ++ h.name.items ∷ []) (old n)) same c.in_ok-add_name.ensures)
    c.loop-hold.invariant
