-- Worked examples of the grammar of tokens.
use Rattle.std.proofs.Common.{◌≡◌, ℕ, true, false, List, [], ◌∷◌, ◌++◌, refl, arith, inl, inr}
use Rattle.std.specs.Prelude.{codes}
use Rattle.std.proofs.lemmas.Bool.{true≢false}
use Rattle.sieve_syntax.specs.declared.token.TokenKind.TheVariants as kinds
use Rattle.sieve_text.specs.declared.fault.ScanRefusal.TheVariants.{NoToken, StringNotClosed, CommentNotClosed}
use Rattle.sieve_text.specs.Strings.{with_crlf}
use Rattle.sieve_text.specs.TokenGrammar.{kilo, quoted_end, quoted_plain, quoted_pair, IsLineEnd, no_lines, line}
use Rattle.sieve_text.specs.TokenGrammar.{Lexeme, IsApart, Gap, gap_end, gap_white, gap_hash, gap_bracketed}
use Rattle.sieve_text.specs.FaultGrammar.{no_opening, open_escape, open_opening, IsFaultHere}

first_is : (a b : ℕ) (xs ys : List ℕ) → a ∷ xs ≡ b ∷ ys → a ≡ b
first_is a b xs ys e = cc

-- "text" before ":" is no identifier, in letters of either case, and before a blank it is one
text_colon : IsApart (kinds.Identifier (codes "Text")) (codes ":foo") → ⊥
text_colon h = true≢false (h refl)

text_blank : IsApart (kinds.Identifier (codes "text")) (codes " :a")
text_blank h = refl

-- and what follows "text:" has to be blanks, a comment or a line end
text_foo : IsFaultHere NoToken 5 (codes "text:foo")
text_foo = no_opening (codes "text:") [] (codes "foo") refl refl (record { some = omega arith; blank = refl; hash = refl; line_end = none })
  where
    none : (end following : List ℕ) → codes "foo" ≡ end ++ following → IsLineEnd end → ⊥
    none end following same (inl e) = let f : ◌≡◌ {A = ℕ} 102 10 = first_is 102 10 (codes "oo") following (rw e at same) in omega arith
    none end following same (inr e) = let f : ◌≡◌ {A = ℕ} 102 13 = first_is 102 13 (codes "oo") (10 ∷ following) (rw e at same) in omega arith

text_end : IsFaultHere StringNotClosed 0 (codes "text: # a")
text_end = (refl, open_opening (codes "text:") (codes " ") (codes "# a") refl refl (inr (refl, refl)))

-- a backslash comes before the octet that it escapes, and none is left over
escape_end : IsFaultHere StringNotClosed 0 (codes "\"a\\")
escape_end = (refl, open_escape (codes "a") (codes "a") (quoted_plain 97 [] [] (λ e. omega arith) (λ e. omega arith) quoted_end))

slash : IsFaultHere CommentNotClosed 0 (codes "/*/")
slash = (refl, (codes "/", refl, refl))

-- a quantifier multiplies
ten_kilo : Lexeme (kinds.Number 10240) (codes "10K") (codes "x")
ten_kilo = record {
  digits = codes "10";
  quantifier = codes "K";
  factor = 1024;
  cut = refl;
  some = omega arith;
  all =
      refl;
  counts = kilo 75 (inl refl);
  says = refl;
}

-- a quoted string with a quotation mark, and with a line end that is read as CR LF
quoted : Lexeme (kinds.StringValue (codes "\"" ++ 13 ∷ 10 ∷ [])) (codes "\"\\\"" ++ 10 ∷ codes "\"") []
unfolding with_crlf
quoted = inl (record {
  body = codes "\\\"" ++ 10 ∷ [];
  text = codes "\"" ++ 10 ∷ [];
  cut = refl;
  spells =
      quoted_pair 34 (10 ∷ []) (10 ∷ []) (quoted_plain 10 [] [] (λ e. omega arith) (λ e. omega arith) quoted_end);
  says =
      refl;
})

-- a leading dot is dropped if another one follows, and a single dot ends the lines
dotted : Lexeme (kinds.StringValue (codes ".a" ++ 13 ∷ 10 ∷ [])) (codes "text:" ++ 10 ∷ (codes "..a" ++ 10 ∷ codes ".")) []
unfolding with_crlf
dotted = inr (record {
  word = codes "text:";
  blanks = [];
  comment = [];
  end = 10 ∷ [];
  body = codes "..a" ++ 10 ∷ [];
  text = codes ".a" ++ 10 ∷ [];
  last = [];
  cut = refl;
  word_is = refl;
  blanks_are = refl;
  comment_is = inl refl;
  end_is = inl refl;
  body_is = line (codes "..a") [] [] refl refl no_lines;
  last_is = inr (refl, refl);
  says = refl;
})

-- comments do not nest
comments : Gap (codes "/* /* */ # x" ++ 10 ∷ []) (codes "keep")
comments = gap_bracketed (codes " /* ") (codes " # x" ++ 10 ∷ []) (codes "keep") refl (gap_white 32 (codes "# x"
    ++ 10 ∷ []) (codes "keep") refl (gap_hash (codes " x") (10 ∷ []) (codes "keep") refl refl
    (gap_white 10 [] (codes "keep") refl (gap_end (codes "keep")))))
