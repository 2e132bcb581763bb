-- A mark that a text begins with is its first token.
use Rattle.std.proofs.Common.{◌≡◌, ℕ, List, ◌∷◌, drop, Option, Some, None, Ok, refl, sym, subst, inl, inr}
use Rattle.std.specs.Prelude.{if◌then◌else◌, ◌==◌}
use Rattle.std.proofs.lemmas.Bool.{eqb-true}
use Rattle.sieve_text.proofs.GrammarParts.{same_mark, no_mark, chosen}
use Rattle.sieve_syntax.specs.declared.token.Mark.{Mark}
use Rattle.sieve_syntax.specs.declared.token.Mark.TheVariants.{Semicolon, OpenBrace, CloseBrace, OpenParen, CloseParen}
use Rattle.sieve_syntax.specs.declared.token.Mark.TheVariants.{OpenBracket, CloseBracket, Comma}
use Rattle.sieve_syntax.specs.declared.token.TokenKind.TheVariants as kinds
use Rattle.sieve_text.specs.Gaps.{gap_len, comment_len}
use Rattle.sieve_text.specs.Lexemes.{kinds_in, left_in}
use Rattle.sieve_text.specs.Tokens.{mark_of, kind_at}
use Rattle.sieve_text.proofs.LexemeLemmas.{first_in, left_first}

-- texts that begin with the octet have the mark as their first token, with no gap before it
abbrev StandsFirst : ℕ → Mark → Type 0
StandsFirst b m = (bs : List ℕ) → (gap_len 0 (b ∷ bs) ≡ 0) × (kind_at (b ∷ bs) ≡ Ok (kinds.Mark m, 1))

-- the octet is this one, or one of the others
or_other : (o : ℕ) (n : Mark) → StandsFirst o n → (b : ℕ) (m : Mark) (more : Option Mark)
    → (more ≡ Some m → StandsFirst b m) → (if b == o then Some n else more) ≡ Some m → StandsFirst b m
or_other o n first b m more other e = elim (chosen (b == o) (Some n) more m e) [
  | inl h ↦ subst (λ (c : ℕ). StandsFirst c m) (sym (eqb-true b o h.0)) (subst (λ (k : Mark). StandsFirst o k) (same_mark n m h.1) first)
  | inr h ↦ other h.1
]

pub mark_first : (b : ℕ) (m : Mark) → mark_of b ≡ Some m → (bs : List ℕ) → (gap_len 0 (b ∷ bs) ≡ 0) × (kind_at (b ∷ bs) ≡ Ok (kinds.Mark m, 1))
unfolding gap_len comment_len kind_at
mark_first b m =
    or_other 59 Semicolon (λ bs. (refl, refl)) b m _
    (or_other 123 OpenBrace (λ bs. (refl, refl)) b m _
    (or_other 125 CloseBrace (λ bs. (refl, refl)) b m _
    (or_other 40 OpenParen (λ bs. (refl, refl)) b m _
    (or_other 41 CloseParen (λ bs. (refl, refl)) b m _
    (or_other 91 OpenBracket (λ bs. (refl, refl)) b m _
    (or_other 93 CloseBracket (λ bs. (refl, refl)) b m _
    (or_other 44 Comma (λ bs. (refl, refl)) b m None (λ e. absurd (no_mark m e)))))))))

pub mark_in : (b : ℕ) (bs : List ℕ) (m : Mark) → mark_of b ≡ Some m → kinds_in (b ∷ bs) ≡ kinds.Mark m ∷ kinds_in bs
mark_in b bs m e =
    let f = mark_first b m e bs in
    let read : kind_at (drop (gap_len 0 (b ∷ bs)) (b ∷ bs)) ≡ Ok (kinds.Mark m, 1) = rw f.0 f.1 in
    subst (λ (n : ℕ). kinds_in (b ∷ bs) ≡ kinds.Mark m ∷ kinds_in (drop 1 (drop n (b ∷ bs)))) f.0 (first_in (b ∷ bs) (kinds.Mark m, 1) read)

pub mark_left : (b : ℕ) (bs : List ℕ) (m : Mark) → mark_of b ≡ Some m → left_in (b ∷ bs) ≡ left_in bs
mark_left b bs m e =
    let f = mark_first b m e bs in
    let read : kind_at (drop (gap_len 0 (b ∷ bs)) (b ∷ bs)) ≡ Ok (kinds.Mark m, 1) = rw f.0 f.1 in
    subst (λ (n : ℕ). left_in (b ∷ bs) ≡ left_in (drop 1 (drop n (b ∷ bs)))) f.0 (left_first (b ∷ bs) (kinds.Mark m, 1) read)
