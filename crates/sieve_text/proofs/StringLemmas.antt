-- No octet of a string yields more than two.
use Rattle.std.proofs.Common.{◌≡◌, ℕ, ◌*◌, ◌≤◌, Bool, true, false, List, [], ◌∷◌, length, nat_lt, arith, inl, inr}
use Rattle.std.specs.Prelude.{◌==◌, ◌&&◌, not}
use Rattle.std.proofs.lemmas.Bool.{cases_Bool, le-ltb}
use Rattle.sieve_text.specs.Octets.{begins_with}
use Rattle.sieve_text.specs.Strings.{with_crlf, without_escapes, without_stuffing, quoted_value, lines_value}

crlf_at_most : (after : Bool) (bs : List ℕ) → length (with_crlf after bs) ≤ 2 * length bs
unfolding with_crlf
crlf_at_most after [] = omega arith
crlf_at_most after (b ∷ bs) = elim (cases_Bool ((b == 10) && not after)) [
  | inl h ↦ (let r = crlf_at_most false bs in rw h (omega arith))
  | inr h ↦ (let r = crlf_at_most (b == 13) bs in rw h (omega arith))
]

unescaped_at_most : (escaped : Bool) (bs : List ℕ) → length (without_escapes escaped bs) ≤ length bs
unfolding without_escapes
unescaped_at_most escaped [] = omega arith
unescaped_at_most true (b ∷ bs) = let r = unescaped_at_most false bs in omega arith
unescaped_at_most false (b ∷ bs) = elim (cases_Bool (b == 92)) [
  | inl h ↦ (let r = unescaped_at_most true bs in rw h (omega arith))
  | inr h ↦ (let r = unescaped_at_most false bs in rw h (omega arith))
]

unstuffed_at_most : (at_start : Bool) (bs : List ℕ) → length (without_stuffing at_start bs) ≤ length bs
unfolding without_stuffing
unstuffed_at_most at_start [] = omega arith
unstuffed_at_most at_start (b ∷ bs) = elim (cases_Bool ((at_start && (b == 46)) && begins_with 46 bs)) [
  | inl h ↦ (let r = unstuffed_at_most false bs in rw h (omega arith))
  | inr h ↦ (let r = unstuffed_at_most (b == 10) bs in rw h (omega arith))
]

pub few_quoted : (body : List ℕ) → length body ≤ 32767 → nat_lt 65535 (length (quoted_value body)) ≡ false
few_quoted body h =
    let u = unescaped_at_most false body in
    let c = crlf_at_most false (without_escapes false body) in
    le-ltb 65535 (length (quoted_value body)) (omega arith)

pub few_lines : (lines : List ℕ) → length lines ≤ 32767 → nat_lt 65535 (length (lines_value lines)) ≡ false
few_lines lines h =
    let u = unstuffed_at_most true lines in
    let c = crlf_at_most false (without_stuffing true lines) in
    le-ltb 65535 (length (lines_value lines)) (omega arith)
