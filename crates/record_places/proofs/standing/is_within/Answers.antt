use Rattle.std.proofs.Common.{◌≡◌, ◌∙◌, ◌<◌, ◌-◌, ℕ, zero, suc, min, bit_and, ap, sym, refl, arith}
use Rattle.std.specs.Int.{bit_at, bit_not, w32}
use Rattle.std.proofs.lemmas.Bool.{eqb-true}
use Rattle.std.proofs.lemmas.Nat.Bits.{bit_at_and, bit_at_not, bit_at_ones, bit_at-lt, bit_at-zero}
use Rattle.record_places.proofs.standing.is_within.Goals as goal

-- a permission that is given, and is not among those that are lacking, is given there too
given : (b : ℕ) → b < 2 → min (min 1 (1 - b)) 1 ≡ 0 → b ≡ 1
given zero small none = omega (arith, none)
given (suc zero) small none = refl
given (suc (suc b)) small none = omega (arith, small)

pub returns-clause-within : goal.returns-clause-within
returns-clause-within c none p small ours =
    let mode = c.args.mode in
    let other = c.args.other in
    let left = bit_and mode (bit_not w32 other) in
    let lacks : bit_at left p ≡ min 1 (1 - bit_at other p) =
    bit_at_and mode (bit_not w32 other) p ∙ ap (λ b. min b (bit_at (bit_not w32 other) p)) ours
    ∙ ap (min 1) (bit_at_not w32 other p c.ranges.other.fits (omega (arith, small))) in
    let all : bit_at 511 p ≡ 1 = bit_at_ones 9 p small in
    let here : bit_at (bit_and left 511) p ≡ min (min 1 (1 - bit_at other p)) 1 =
    bit_at_and left 511 p ∙ ap (λ b. min b (bit_at 511 p)) lacks ∙ ap (min (min 1 (1 - bit_at other p))) all in
    given (bit_at other p) (bit_at-lt other p) (sym here ∙ ap (λ n. bit_at n p) (eqb-true _ _ none) ∙ bit_at-zero p)
