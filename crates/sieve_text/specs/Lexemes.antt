-- The content of the tokens that are written in a script.
use Rattle.std.specs.Prelude.{ℕ, zero, suc, List, [], ◌∷◌, length, drop, Result, Ok, Err}
use Rattle.sieve_syntax.specs.declared.token.TokenKind.{TokenKind}
use Rattle.sieve_syntax.specs.declared.token.TokenKind.TheVariants as kinds
use Rattle.sieve_syntax.specs.declared.token.Token.{Token}
use Rattle.sieve_text.specs.declared.fault.ScanRefusal.{ScanRefusal}
use Rattle.sieve_text.specs.declared.lexeme.Lexeme.{Lexeme}
use Rattle.sieve_text.specs.declared.lexeme.Lexeme.TheVariants as lexemes
use Rattle.sieve_text.specs.declared.lexeme.PlacedLexeme.{PlacedLexeme}
use Rattle.sieve_text.specs.Gaps.{gap_len}
use Rattle.sieve_text.specs.WrittenStrings.{string_of}
use Rattle.sieve_text.specs.Tokens.{kind_at}

-- the content of a token
abbrev pub kind_of : Lexeme → TokenKind
kind_of (lexemes.Identifier name) = kinds.Identifier name.now
kind_of (lexemes.Tag name) = kinds.Tag name.now
kind_of (lexemes.Number n) = kinds.Number n
kind_of (lexemes.StringValue string) = kinds.StringValue (string_of string.written)
kind_of (lexemes.Mark mark) = kinds.Mark mark

-- the content of a token, and its length in octets
abbrev pub read_of : Lexeme × ℕ → TokenKind × ℕ
read_of x = (kind_of x.0, x.1)

abbrev pub token_of : PlacedLexeme → Token
token_of p = record { kind = kind_of p.lexeme; start = p.start; end = p.end }

abbrev pub first_and : (List ℕ → List TokenKind) → List ℕ → Result (TokenKind × ℕ) ScanRefusal → List TokenKind
first_and more bs (Ok k) = k.0 ∷ more (drop k.1 bs)
first_and more bs (Err refusal) = []

-- the content of a text's tokens, up to the first place where none begins; the number bounds how many
unfoldable pub kinds_within : ℕ → List ℕ → List TokenKind
kinds_within zero bs = []
kinds_within (suc n) bs = first_and (kinds_within n) (drop (gap_len 0 bs) bs) (kind_at (drop (gap_len 0 bs) bs))

-- the content of a text's tokens, up to the first place where none begins; its length is enough, as each token has an
-- octet
abbrev pub kinds_in : List ℕ → List TokenKind
kinds_in bs = kinds_within (length bs) bs

abbrev pub left_after : (List ℕ → List ℕ) → List ℕ → Result (TokenKind × ℕ) ScanRefusal → List ℕ
left_after more bs (Ok k) = more (drop k.1 bs)
left_after more bs (Err refusal) = bs

-- the rest of a text from the first place on where no token begins; the number bounds how many tokens come before
unfoldable pub left_within : ℕ → List ℕ → List ℕ
left_within zero bs = bs
left_within (suc n) bs = left_after (left_within n) (drop (gap_len 0 bs) bs) (kind_at (drop (gap_len 0 bs) bs))

-- the rest of a text from the first place on where no token begins: nothing if tokens go on to its end
abbrev pub left_in : List ℕ → List ℕ
left_in bs = left_within (length bs) bs
