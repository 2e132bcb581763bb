-- Whether a budget suffices, by the longest path or by the cost of place 0.
use Rattle.std.proofs.Common.{◌≡◌, ℕ, ◌+◌, ◌<◌, ◌≤◌, List, length, Some, None, sym, ap, subst, arith}
use Rattle.std.specs.Prelude.{min}
use Rattle.filing_image.specs.Program.{Program}
use Rattle.filing_verify.specs.Flow.{Path}
use Rattle.filing_verify.specs.Well.{AreCosts, Suffices, greatest_budget, IsWithin}
use Rattle.filing_verify.specs.Passes.{too_much}

-- the budget is 1 or more, at least what is needed, and at most the greatest one
abbrev pub IsBetween : (needed budget greatest : ℕ) → Type 0
IsBetween needed budget greatest = (1 ≤ budget) × (budget ≤ greatest) × (needed ≤ budget)

module _ (program : Program) (none : program.procedures ≡ None) (c : ℕ) where
  greatest_one : greatest_budget program.procedures ≡ 65535
  greatest_one = ap greatest_budget none

  pub one_within : ((n q : ℕ) → Path program n q → q < length program.code → n + 1 ≤ c) → IsBetween c program.budget 65535 → IsWithin program
  one_within most b = record {
    least = b.0;
    most = rw greatest_one b.1;
    enough = subst (Suffices program) (sym none) (λ n q path lt. omega (arith, most n q path lt, b.2));
  }

  pub one_between : ((n q : ℕ) × Path program n q × (q < length program.code) × (n + 1 ≡ c)) → IsWithin program → IsBetween c program.budget 65535
  one_between (n, q, path, lt, e) w =
      let enough = subst (Suffices program) none w.enough in
      (w.least, rw greatest_one at w.most, omega (arith, enough n q path lt, e))

module _ (program : Program) (firsts : List ℕ) (some : program.procedures ≡ Some firsts) (c : ℕ) where
  greatest_two : greatest_budget program.procedures ≡ 1000000
  greatest_two = ap greatest_budget some

  pub two_within : ((cost : ℕ → ℕ) × AreCosts program cost)
      → ((cost : ℕ → ℕ) → AreCosts program cost → c ≡ min (cost 0) too_much) → IsBetween c program.budget 1000000
      → IsWithin program
  two_within (cost, are) is b =
      let e : c ≡ min (cost 0) too_much = is cost are in
      let le : c ≤ program.budget = b.2 in
      let most : program.budget ≤ 1000000 = b.1 in
      let enough : cost 0 ≤ program.budget = omega arith in
      record {
        least = b.0;
        most = rw greatest_two most;
        enough = subst (Suffices program) (sym some) (cost, are, enough);
      }

  pub two_between : ((cost : ℕ → ℕ) → AreCosts program cost → c ≡ min (cost 0) too_much) → IsWithin program → IsBetween c program.budget 1000000
  two_between is w =
      let s = subst (Suffices program) some w.enough in
      let e : c ≡ min (s.0 0) too_much = is s.0 s.1 in
      let le : s.0 0 ≤ program.budget = s.2 in
      let most : program.budget ≤ 1000000 = rw greatest_two at w.most in
      (w.least, most, omega arith)
