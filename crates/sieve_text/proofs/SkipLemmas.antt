-- A text has the same tokens without the gap at its front.
use Rattle.std.proofs.Common.{◌≡◌, ℕ, zero, suc, ◌-◌, false, List, [], ◌∷◌, drop, nat_lt, Result, Ok, Err, refl, sym, subst, ◌∙◌, inl, inr}
use Rattle.std.proofs.lemmas.Bool.{cases_Bool}
use Rattle.std.specs.List.{prefix_len}
use Rattle.sieve_syntax.specs.declared.token.TokenKind.{TokenKind}
use Rattle.sieve_text.specs.declared.fault.ScanRefusal.{ScanRefusal}
use Rattle.sieve_text.specs.Octets.{is_white, begins_with}
use Rattle.sieve_text.specs.Gaps.{comment_len, gap_len}
use Rattle.sieve_text.specs.Lexemes.{kinds_in, left_in}
use Rattle.sieve_text.specs.Tokens.{kind_at}
use Rattle.sieve_text.proofs.GapLemmas.{gap_last}
use Rattle.sieve_text.proofs.LexemeLemmas.{first_in, none_in, left_first, left_none}

-- no gap comes after a gap
pub gap_again : (inside : ℕ) (bs : List ℕ) → gap_len 0 (drop (gap_len inside bs) bs) ≡ 0
unfolding gap_len
gap_again inside [] = refl
gap_again (suc n) (b ∷ bs) = gap_again n bs
gap_again zero (b ∷ bs) = elim (cases_Bool (is_white b)) [
  | inl h ↦ rw h (gap_again 0 bs)
  | inr h ↦ elim (cases_Bool (nat_lt 0 (comment_len (b ∷ bs)))) [
    | inl k ↦ rw (h, k) (gap_again (comment_len (b ∷ bs) - 1) bs)
    | inr k ↦ rw (h, k, h, k) refl
  ]
]

again : (bs : List ℕ) (read : Result (TokenKind × ℕ) ScanRefusal) → kind_at (drop (gap_len 0 bs) bs) ≡ read
    → kind_at (drop (gap_len 0 (drop (gap_len 0 bs) bs)) (drop (gap_len 0 bs) bs)) ≡ read
again bs read e = subst (λ (n : ℕ). kind_at (drop n (drop (gap_len 0 bs) bs)) ≡ read) (sym (gap_again 0 bs)) e

pub kinds_after : (bs : List ℕ) → kinds_in (drop (gap_len 0 bs) bs) ≡ kinds_in bs
kinds_after bs = go (kind_at rest) refl
  where
    rest : List ℕ
    rest = drop (gap_len 0 bs) bs

    go : (read : Result (TokenKind × ℕ) ScanRefusal) → kind_at rest ≡ read → kinds_in rest ≡ kinds_in bs
    go (Ok k) e =
        subst (λ (n : ℕ). kinds_in rest ≡ k.0 ∷ kinds_in (drop k.1 (drop n rest))) (gap_again 0 bs)
        (first_in rest k (again bs (Ok k) e)) ∙ sym (first_in bs k e)
    go (Err refusal) e = none_in rest refusal (again bs (Err refusal) e) ∙ sym (none_in bs refusal e)

pub left_after_gap : (bs : List ℕ) → left_in (drop (gap_len 0 bs) bs) ≡ left_in bs
left_after_gap bs = go (kind_at rest) refl
  where
    rest : List ℕ
    rest = drop (gap_len 0 bs) bs

    go : (read : Result (TokenKind × ℕ) ScanRefusal) → kind_at rest ≡ read → left_in rest ≡ left_in bs
    go (Ok k) e =
        subst (λ (n : ℕ). left_in rest ≡ left_in (drop k.1 (drop n rest))) (gap_again 0 bs)
        (left_first rest k (again bs (Ok k) e)) ∙ sym (left_first bs k e)
    go (Err refusal) e =
        subst (λ (n : ℕ). left_in rest ≡ drop n rest) (gap_again 0 bs)
        (left_none rest refusal (again bs (Err refusal) e)) ∙ sym (left_none bs refusal e)

no_comment : (bs : List ℕ) → begins_with 35 bs ≡ false → begins_with 47 bs ≡ false → comment_len bs ≡ 0
unfolding comment_len
no_comment [] h s = refl
no_comment (b ∷ bs) h s = rw (h, s) refl

-- a gap of white space alone
pub white_gap : (bs : List ℕ) → begins_with 35 (drop (prefix_len is_white bs) bs) ≡ false
    → begins_with 47 (drop (prefix_len is_white bs) bs) ≡ false → gap_len 0 bs ≡ prefix_len is_white bs
white_gap bs h s = gap_last bs (prefix_len is_white bs) refl (no_comment (drop (prefix_len is_white bs) bs) h s)
