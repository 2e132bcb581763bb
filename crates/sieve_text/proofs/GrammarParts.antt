-- Marks, quantifiers and octets of the grammar, and how they are read.
use Rattle.std.proofs.Common.{◌≡◌, ℕ, ◌⊎◌, Bool, true, false, List, [], ◌∷◌, length, take, Option, Some, None, refl, ap, ◌∙◌, inl, inr}
use Rattle.std.specs.Prelude.{if◌then◌else◌, ◌==◌, ◌||◌}
use Rattle.std.proofs.lemmas.Bool.{cases_Bool, eqb-true, or_cases}
use Rattle.sieve_syntax.specs.declared.token.Mark.{Mark}
use Rattle.sieve_syntax.specs.declared.token.Mark.TheVariants.{Semicolon, OpenBrace, CloseBrace, OpenParen, CloseParen}
use Rattle.sieve_syntax.specs.declared.token.Mark.TheVariants.{OpenBracket, CloseBracket, Comma}
use Rattle.sieve_text.specs.Tokens.{mark_of, factor_at}
use Rattle.sieve_text.specs.TokenGrammar.{Quantifier, no_quantifier, kilo, mega, giga, octet_of}

pub same_mark : (m n : Mark) → Some m ≡ Some n → m ≡ n
same_mark m n e = cc

pub no_mark : (m : Mark) → ◌≡◌ {A = Option Mark} None (Some m) → ⊥
no_mark m e = cc

pub chosen : (t : Bool) (x y : Option Mark) (m : Mark) → (if t then x else y) ≡ Some m → ((t ≡ true) × (x ≡ Some m)) ⊎ ((t ≡ false) × (y ≡ Some m))
chosen true x y m e = inl (refl, e)
chosen false x y m e = inr (refl, e)

or_octet : (n : Mark) (b : ℕ) (m : Mark) (more : Option Mark) → (more ≡ Some m → b ≡ octet_of m)
    → (if b == octet_of n then Some n else more) ≡ Some m → b ≡ octet_of m
or_octet n b m more other e = elim (chosen (b == octet_of n) (Some n) more m e) [
  | inl h ↦ eqb-true b (octet_of n) h.0 ∙ ap octet_of (same_mark n m h.1)
  | inr h ↦ other h.1
]

pub mark_octet : (b : ℕ) (m : Mark) → mark_of b ≡ Some m → b ≡ octet_of m
mark_octet b m =
    or_octet Semicolon b m _ (or_octet OpenBrace b m _ (or_octet CloseBrace b m _ (or_octet OpenParen b m _
    (or_octet CloseParen b m _ (or_octet OpenBracket b m _ (or_octet CloseBracket b m _ (or_octet Comma b m None (λ e. absurd (no_mark m e)))))))))

pub octet_mark : (m : Mark) → mark_of (octet_of m) ≡ Some m
octet_mark Semicolon = refl
octet_mark m = refl

either : (b m n : ℕ) → ((b == m) || (b == n)) ≡ true → (b ≡ m) ⊎ (b ≡ n)
either b m n h = elim (or_cases (b == m) (b == n) h) [
  | inl e ↦ inl (eqb-true b m e)
  | inr e ↦ inr (eqb-true b n e)
]

pub quantifier_taken : (bs : List ℕ) → Quantifier (take (factor_at bs).1 bs) (factor_at bs).0
quantifier_taken [] = no_quantifier
quantifier_taken (b ∷ bs) = elim (cases_Bool ((b == 75) || (b == 107))) [
  | inl h ↦ rw h (kilo b (either b 75 107 h))
  | inr h ↦ elim (cases_Bool ((b == 77) || (b == 109))) [
    | inl h1 ↦ rw (h, h1) (mega b (either b 77 109 h1))
    | inr h1 ↦ elim (cases_Bool ((b == 71) || (b == 103))) [
      | inl h2 ↦ rw (h, h1, h2) (giga b (either b 71 103 h2))
      | inr h2 ↦ rw (h, h1, h2) no_quantifier
    ]
  ]
]

pub quantifier_counts : (quantifier : List ℕ) (factor : ℕ) → Quantifier quantifier factor → factor_at quantifier ≡ (factor, length quantifier)
quantifier_counts _ _ no_quantifier = refl
quantifier_counts _ _ (kilo b (inl e)) = rw e refl
quantifier_counts _ _ (kilo b (inr e)) = rw e refl
quantifier_counts _ _ (mega b (inl e)) = rw e refl
quantifier_counts _ _ (mega b (inr e)) = rw e refl
quantifier_counts _ _ (giga b (inl e)) = rw e refl
quantifier_counts _ _ (giga b (inr e)) = rw e refl
