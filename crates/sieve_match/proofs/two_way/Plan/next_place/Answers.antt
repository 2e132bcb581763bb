use Rattle.std.proofs.Common.{ℕ, ◌+◌, ◌-◌, Option, length, sym, subst, arith}
use Rattle.memchr.specs.TwoWay.{IsNextCandidate}
use Rattle.sieve_match.specs.TwoWay.{StandsAt}
use Rattle.sieve_match.proofs.TwoWayLemmas.{skipped_all, skipped_to}
use Rattle.sieve_match.proofs.two_way.Plan.next_place.Goals as goal

pub returns-in_err-skipped-clause-next : goal.returns-in_err-skipped-clause-next
returns-in_err-skipped-clause-next c =
    subst (λ (r : Option ℕ).
    IsNextCandidate (StandsAt c.args.value.now c.args.key.now) c.args.at
    (length c.args.value.now + 1 - length c.args.key.now) r) (sym c.from_residual.ensures)
    (skipped_all c.args.key.now c.args.value.now c.args.at c.args.self.now.rare _ _ c.requires.rare c.requires.within
    c.to_ascii_uppercase-upper.ensures.value c.to_ascii_lowercase-lower.ensures.value c.in_err-skipped.ensures)

pub returns-clause-next : goal.returns-clause-next
returns-clause-next c =
    let s = skipped_to c.args.key.now c.args.value.now c.args.at c.args.self.now.rare _ _ c.requires.rare
    c.requires.within c.to_ascii_uppercase-upper.ensures.value c.to_ascii_lowercase-lower.ensures.value
    c.in_ok-skipped.skipped c.in_ok-skipped.ensures.0 in
    (omega arith, s.0, s.1)
