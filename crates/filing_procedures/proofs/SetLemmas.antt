-- Sets of slots by their bits.
use Rattle.std.proofs.Common.{◌≡◌, ℕ, zero, suc, ◌*◌, ◌%◌, ◌^◌, ◌<◌, Bool, true, false, ◌||◌, ◌&&◌, bit_and, bit_or, w64, refl, ap, ◌∙◌, arith}
use Rattle.std.specs.Prelude.{nat_eq, max, min}
use Rattle.std.specs.Int.{bit_at}
use Rattle.std.proofs.lemmas.Bool.{eq-eqb, eqb-true}
use Rattle.std.proofs.lemmas.Nat.Bits.{bit_at-lt, bit_at_or, bit_at_and, bit_at_set_same, bit_at_set_other, same_from_bits_below}

either_bit : (x y : ℕ) → x < 2 → y < 2 → nat_eq (max x y) 1 ≡ (nat_eq x 1 || nat_eq y 1)
either_bit zero zero h k = refl
either_bit zero (suc zero) h k = refl
either_bit (suc zero) zero h k = refl
either_bit (suc zero) (suc zero) h k = refl
either_bit zero (suc (suc y)) h k = absurd (omega (arith, k))
either_bit (suc zero) (suc (suc y)) h k = absurd (omega (arith, k))
either_bit (suc (suc x)) y h k = absurd (omega (arith, h))

both_bits : (x y : ℕ) → x < 2 → y < 2 → nat_eq (min x y) 1 ≡ (nat_eq x 1 && nat_eq y 1)
both_bits zero zero h k = refl
both_bits zero (suc zero) h k = refl
both_bits (suc zero) zero h k = refl
both_bits (suc zero) (suc zero) h k = refl
both_bits zero (suc (suc y)) h k = absurd (omega (arith, k))
both_bits (suc zero) (suc (suc y)) h k = absurd (omega (arith, k))
both_bits (suc (suc x)) y h k = absurd (omega (arith, h))

same_bit : (x y : ℕ) → x < 2 → y < 2 → nat_eq x 1 ≡ nat_eq y 1 → x ≡ y
same_bit zero zero h k e = refl
same_bit zero (suc zero) h k e = absurd (cc e)
same_bit (suc zero) zero h k e = absurd (cc e)
same_bit (suc zero) (suc zero) h k e = refl
same_bit zero (suc (suc y)) h k e = absurd (omega (arith, k))
same_bit (suc zero) (suc (suc y)) h k e = absurd (omega (arith, k))
same_bit (suc (suc x)) y h k e = absurd (omega (arith, h))

pub has_either : (a b k : ℕ) → nat_eq (bit_at (bit_or a b) k) 1 ≡ (nat_eq (bit_at a k) 1 || nat_eq (bit_at b k) 1)
has_either a b k = ap (λ (n : ℕ). nat_eq n 1) (bit_at_or a b k) ∙ either_bit (bit_at a k) (bit_at b k) (bit_at-lt a k) (bit_at-lt b k)

pub has_both : (a b k : ℕ) → nat_eq (bit_at (bit_and a b) k) 1 ≡ (nat_eq (bit_at a k) 1 && nat_eq (bit_at b k) 1)
has_both a b k = ap (λ (n : ℕ). nat_eq n 1) (bit_at_and a b k) ∙ both_bits (bit_at a k) (bit_at b k) (bit_at-lt a k) (bit_at-lt b k)

pub has_one_more : (a slot k : ℕ) → slot < 64 → nat_eq (bit_at (bit_or a (1 * 2 ^ slot % 2 ^ 64)) k) 1 ≡ (nat_eq k slot || nat_eq (bit_at a k) 1)
has_one_more a slot k inside = by (nat_eq k slot) refl
  where
    by : (b : Bool) → nat_eq k slot ≡ b → nat_eq (bit_at (bit_or a (1 * 2 ^ slot % 2 ^ 64)) k) 1 ≡ (b || nat_eq (bit_at a k) 1)
    by true is =
        let at : k ≡ slot = eqb-true k slot is in
        ap (λ (n : ℕ). nat_eq (bit_at (bit_or a (1 * 2 ^ slot % 2 ^ 64)) n) 1) at ∙ ap (λ (n : ℕ). nat_eq n 1) (bit_at_set_same w64 a slot inside)
    by false is =
        ap (λ (n : ℕ). nat_eq n 1) (bit_at_set_other w64 a slot inside k (λ at. absurd (cc (eq-eqb k slot at, is))))

pub same_bits : (a b : ℕ) → a < 2 ^ 64 → b < 2 ^ 64 → ((k : ℕ) → k < 64 → nat_eq (bit_at a k) 1 ≡ nat_eq (bit_at b k) 1) → nat_eq a b ≡ true
same_bits a b la lb h =
    eq-eqb a b (same_from_bits_below 64 a b la lb (λ i inside.
    same_bit (bit_at a i) (bit_at b i) (bit_at-lt a i) (bit_at-lt b i) (h i inside)))
