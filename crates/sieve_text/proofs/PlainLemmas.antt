-- A quoted string without backslashes and line ends is its own value.
use Rattle.std.proofs.Common.{◌≡◌, ◌+◌, ℕ, suc, Bool, false, List, [], ◌∷◌, length, refl, ap, arith, inl, inr}
use Rattle.std.specs.Prelude.{◌==◌}
use Rattle.std.specs.List.{prefix_len}
use Rattle.std.proofs.lemmas.Bool.{cases_Bool}
use Rattle.sieve_text.specs.Octets.{is_plain}
use Rattle.sieve_text.specs.Strings.{with_crlf, without_escapes, quoted_value}

plain_stays : (after_cr : Bool) (bs : List ℕ) → prefix_len is_plain bs ≡ length bs → with_crlf after_cr (without_escapes false bs) ≡ bs
unfolding with_crlf without_escapes
plain_stays after_cr [] h = refl
plain_stays after_cr (b ∷ bs) h = elim (cases_Bool (b == 92)) [
  | inl e ↦ (let n : 0 ≡ suc (length bs) = rw e at h in absurd (omega (arith, n)))
  | inr e ↦ elim (cases_Bool (b == 10)) [
    | inl e1 ↦ (let n : 0 ≡ suc (length bs) = rw (e, e1) at h in absurd (omega (arith, n)))
    | inr e1 ↦ (let n : 1 + prefix_len is_plain bs ≡ suc (length bs) = rw (e, e1) at h in
        rw (e, e1) (ap (λ (cs : List ℕ). b ∷ cs) (plain_stays (b == 13) bs (omega (arith, n)))))
  ]
]

pub plain_value : (body : List ℕ) → prefix_len is_plain body ≡ length body → quoted_value body ≡ body
plain_value body h = plain_stays false body h
