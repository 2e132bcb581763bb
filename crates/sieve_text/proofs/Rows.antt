-- Worked examples of the definitions.
use Rattle.std.proofs.Common.{◌≡◌, ℕ, List, [], ◌∷◌, ◌++◌, map, Result, Ok, Err, refl}
use Rattle.std.specs.Prelude.{codes}
use Rattle.sieve_syntax.specs.declared.token.TokenKind.{TokenKind}
use Rattle.sieve_syntax.specs.declared.token.TokenKind.TheVariants as kinds
use Rattle.sieve_text.specs.declared.fault.ScanRefusal.{ScanRefusal}
use Rattle.sieve_text.specs.declared.fault.ScanRefusal.TheVariants.{NoToken, StringNotClosed, CommentNotClosed, NumberTooLarge}
use Rattle.sieve_text.specs.Octets.{stray_len}
use Rattle.sieve_text.specs.Gaps.{bracketed_len, comment_len, gap_len}
use Rattle.sieve_text.specs.Strings.{quoted_len, without_escapes, with_crlf, lines_len, without_stuffing}
use Rattle.sieve_text.specs.Tokens.{kind_at, multi_line_at, lines_at, quoted_at, number_at}

abbrev pub lf : List ℕ
lf = 10 ∷ []

abbrev pub crlf : List ℕ
crlf = 13 ∷ 10 ∷ []

-- comments do not nest, a hash comment ends with its line, and "/*/" is not closed
gaps : map (gap_len 0) ((codes "/* a /* b */ # x" ++ lf ++ codes " keep") ∷ codes " /*/" ∷ []) ≡ 18 ∷ 1 ∷ []
unfolding gap_len comment_len bracketed_len
gaps = refl

-- each text, and the token that it begins with and its length, or why none does
abbrev texts : List (List ℕ × Result (TokenKind × ℕ) ScanRefusal)
texts =
    (codes "/*/", Err CommentNotClosed) ∷
    -- the largest number, and one more
    (codes "8589934591G {}", Ok (kinds.Number 9223372035781033984, 11)) ∷
    (codes "8589934592G {}", Err NumberTooLarge) ∷
    (codes "10Kx", Ok (kinds.Number 10240, 3)) ∷
    (codes "0x10", Ok (kinds.Number 0, 1)) ∷
    -- dots: a leading one is dropped only if another follows
    (
      codes "text:" ++ lf ++ codes "..a" ++ lf ++ codes ".b" ++ lf ++ codes ".",
      Ok (kinds.StringValue (codes ".a" ++ crlf ++ codes ".b" ++ crlf), 14),
    ) ∷
    (codes "TEXT: # c" ++ crlf ++ codes "." ++ crlf ++ codes "; ", Ok (kinds.StringValue [], 14)) ∷
    (codes "text:foo", Err NoToken) ∷
    (codes "text: # a", Err StringNotClosed) ∷
    (codes "text :a", Ok (kinds.Identifier (codes "text"), 4)) ∷
    -- a backslash is dropped; a bare LF is CR LF
    (codes "\"a\\\"\\\\\\b\\" ++ lf ++ codes "\" x", Ok (kinds.StringValue (codes "a\"\\b" ++ crlf), 11)) ∷
    (codes "\"abc\\", Err StringNotClosed) ∷
    []

tokens_are : map (λ r. kind_at r.0) texts ≡ map (λ r. r.1) texts
unfolding kind_at number_at multi_line_at lines_at lines_len without_stuffing with_crlf quoted_at quoted_len without_escapes
tokens_are = refl

strays : stray_len (codes "keep; " ++ crlf ++ 13 ∷ []) ≡ 8
unfolding stray_len
strays = refl
