-- The grammar of scripts as sequences of gaps and tokens (RFC 5228, sections 2.2 to 2.4 and 8.1), independent of how
-- they are found.
use Rattle.std.specs.Prelude.{◌≡◌, ℕ, ◌+◌, ◌*◌, ◌<◌, ◌≤◌, ◌⊎◌, Bool, true, false, List, [], ◌∷◌, ◌++◌, map, length, ◌==◌, ◌&&◌, ◌||◌, codes, if◌then◌else◌}
use Rattle.std.specs.List.{list_all}
use Rattle.std.specs.Char.{is_ascii_digit, to_ascii_lowercase}
use Rattle.std.specs.Str.Parse.{digits_value}
use Rattle.sieve_syntax.specs.declared.token.Mark.{Mark}
use Rattle.sieve_syntax.specs.declared.token.Mark.TheVariants.{Semicolon, OpenBrace, CloseBrace, OpenParen, CloseParen, OpenBracket, CloseBracket, Comma}
use Rattle.sieve_syntax.specs.declared.token.TokenKind.{TokenKind}
use Rattle.sieve_syntax.specs.declared.token.TokenKind.TheVariants as kinds
use Rattle.sieve_syntax.specs.declared.token.Token.{Token}
use Rattle.sieve_text.specs.Octets.{is_blank, is_white, is_start, is_word, not_lf, begins, begins_with}
use Rattle.sieve_text.specs.Strings.{with_crlf}

-- (ALPHA / "_") *(ALPHA / DIGIT / "_")
abbrev pub IsName : List ℕ → Type 0
IsName name = (begins is_start name ≡ true) × (list_all is_word name ≡ true)

-- QUANTIFIER = "K" / "M" / "G", in letters of either case: 2^10, 2^20 and 2^30
pub data Quantifier : List ℕ → ℕ → Type 0 where
  no_quantifier : Quantifier [] 1
  kilo : (b : ℕ) → (b ≡ 75) ⊎ (b ≡ 107) → Quantifier (b ∷ []) 1024
  mega : (b : ℕ) → (b ≡ 77) ⊎ (b ≡ 109) → Quantifier (b ∷ []) 1048576
  giga : (b : ℕ) → (b ≡ 71) ⊎ (b ≡ 103) → Quantifier (b ∷ []) 1073741824

-- 1*DIGIT [QUANTIFIER]
pub record IsNumber (value : ℕ) (octets : List ℕ) : Type 0 where
  pub digits : List ℕ
  pub quantifier : List ℕ
  pub factor : ℕ
  pub cut : octets ≡ digits ++ quantifier
  pub some : 0 < length digits
  pub all : list_all is_ascii_digit digits ≡ true
  pub counts : Quantifier quantifier factor
  pub says : value ≡ digits_value 10 digits * factor

-- the text between quotation marks, and its content: a quotation mark or backslash comes only after a backslash
pub data QuotedText : List ℕ → List ℕ → Type 0 where
  quoted_end : QuotedText [] []
  quoted_plain : (b : ℕ) (bs says : List ℕ) → (b ≡ 34 → ⊥) → (b ≡ 92 → ⊥) → QuotedText bs says →
      QuotedText (b ∷ bs) (b ∷ says)
  quoted_pair : (b : ℕ) (bs says : List ℕ) → QuotedText bs says → QuotedText (92 ∷ b ∷ bs) (b ∷ says)

-- DQUOTE quoted-text DQUOTE
pub record IsQuoted (value octets : List ℕ) : Type 0 where
  pub body : List ℕ
  pub text : List ℕ
  pub cut : octets ≡ 34 ∷ (body ++ 34 ∷ [])
  pub spells : QuotedText body text
  pub says : value ≡ with_crlf false text

-- LF or CR LF
abbrev pub IsLineEnd : List ℕ → Type 0
IsLineEnd octets = (octets ≡ 10 ∷ []) ⊎ (octets ≡ 13 ∷ 10 ∷ [])

-- a single dot, before an LF or before CR LF
abbrev pub is_dot : List ℕ → Bool
is_dot [] = false
is_dot (b ∷ []) = b == 46
is_dot (b ∷ c ∷ []) = (b == 46) && (c == 13)
is_dot (b ∷ c ∷ d ∷ bs) = false

-- a leading dot is dropped if another dot follows it
abbrev pub without_dot : List ℕ → List ℕ
without_dot [] = []
without_dot (b ∷ bs) = if (b == 46) && begins_with 46 bs then bs else b ∷ bs

-- lines, of which none is a single dot, and their content
pub data Lines : List ℕ → List ℕ → Type 0 where
  no_lines : Lines [] []
  line : (content bs says : List ℕ) → list_all not_lf content ≡ true → is_dot content ≡ false → Lines bs says →
      Lines (content ++ 10 ∷ bs) (without_dot content ++ 10 ∷ says)

-- "text:", in letters of either case
abbrev pub IsTextColon : List ℕ → Type 0
IsTextColon word = map to_ascii_lowercase word ≡ codes "text:"

-- [hash-comment], without its line end
abbrev pub IsHashComment : List ℕ → Type 0
IsHashComment comment = (comment ≡ []) ⊎ ((begins_with 35 comment ≡ true) × (list_all not_lf comment ≡ true))

-- "text:" *(SP / HTAB) [hash-comment] line-end lines "." line-end, where the last line-end may be the script's end
pub record IsMultiLine (value octets following : List ℕ) : Type 0 where
  pub word : List ℕ
  pub blanks : List ℕ
  pub comment : List ℕ
  pub end : List ℕ
  pub body : List ℕ
  pub text : List ℕ
  pub last : List ℕ
  pub cut : octets ≡ word ++ (blanks ++ (comment ++ (end ++ (body ++ 46 ∷ last))))
  pub word_is : IsTextColon word
  pub blanks_are : list_all is_blank blanks ≡ true
  pub comment_is : IsHashComment comment
  pub end_is : IsLineEnd end
  pub body_is : Lines body text
  pub last_is : IsLineEnd last ⊎ ((last ≡ []) × (following ≡ []))
  pub says : value ≡ with_crlf false text

abbrev pub octet_of : Mark → ℕ
octet_of Semicolon = 59
octet_of OpenBrace = 123
octet_of CloseBrace = 125
octet_of OpenParen = 40
octet_of CloseParen = 41
octet_of OpenBracket = 91
octet_of CloseBracket = 93
octet_of Comma = 44

-- the octets of a token, before others
abbrev pub Lexeme : TokenKind → List ℕ → List ℕ → Type 0
Lexeme (kinds.Identifier name) octets following = (octets ≡ name) × IsName name
Lexeme (kinds.Tag name) octets following = (octets ≡ 58 ∷ name) × IsName name
Lexeme (kinds.Number n) octets following = IsNumber n octets
Lexeme (kinds.StringValue value) octets following = IsQuoted value octets ⊎ IsMultiLine value octets following
Lexeme (kinds.Mark mark) octets following = octets ≡ octet_of mark ∷ []

-- a number is at most 2^63 - 1, a string has at most 65,535 octets
abbrev pub IsWithinLimits : TokenKind → Type 0
IsWithinLimits (kinds.Identifier name) = Unit {0}
IsWithinLimits (kinds.Tag name) = Unit {0}
IsWithinLimits (kinds.Number n) = n ≤ 9223372036854775807
IsWithinLimits (kinds.StringValue value) = length value ≤ 65535
IsWithinLimits (kinds.Mark mark) = Unit {0}

-- "text:" begins a multi-line string: the name "text", in letters of either case, is no identifier before ":"
abbrev pub IsApart : TokenKind → List ℕ → Type 0
IsApart (kinds.Identifier name) following = map to_ascii_lowercase name ≡ codes "text" →
    begins_with 58 following ≡ false
IsApart (kinds.Tag name) following = Unit {0}
IsApart (kinds.Number n) following = Unit {0}
IsApart (kinds.StringValue value) following = Unit {0}
IsApart (kinds.Mark mark) following = Unit {0}

-- a token with these octets, before others: the longest that fits
pub record IsToken (kind : TokenKind) (octets following : List ℕ) : Type 0 where
  pub spelled : Lexeme kind octets following
  pub longest : (other : TokenKind) (more rest : List ℕ) → octets ++ following ≡ more ++ rest →
      Lexeme other more rest → length more ≤ length octets
  pub apart : IsApart kind following
  pub limited : IsWithinLimits kind

-- whether "*/" occurs
abbrev pub closes : List ℕ → Bool
closes [] = false
closes (b ∷ bs) = ((b == 42) && begins_with 47 bs) || closes bs

-- white space and comments before other octets. A hash comment extends to its line's end, or to the script's end; a
-- bracketed one ends with the first "*/"
pub data Gap : List ℕ → List ℕ → Type 0 where
  gap_end : (following : List ℕ) → Gap [] following
  gap_white : (b : ℕ) (bs following : List ℕ) → is_white b ≡ true → Gap bs following → Gap (b ∷ bs) following
  gap_hash : (text bs following : List ℕ) → list_all not_lf text ≡ true → begins not_lf (bs ++ following) ≡ false →
      Gap bs following → Gap (35 ∷ (text ++ bs)) following
  gap_bracketed : (text bs following : List ℕ) → closes (text ++ 42 ∷ []) ≡ false → Gap bs following →
      Gap (47 ∷ 42 ∷ (text ++ 42 ∷ 47 ∷ bs)) following

-- a token comes first, after a gap, from an offset on
pub record IsFirst (at : ℕ) (bs : List ℕ) (t : Token) (following : List ℕ) : Type 0 where
  pub gap : List ℕ
  pub octets : List ℕ
  pub cut : bs ≡ gap ++ (octets ++ following)
  pub gap_is : Gap gap (octets ++ following)
  pub start : t.start ≡ at + length gap
  pub end : t.end ≡ t.start + length octets
  pub token : IsToken t.kind octets following

-- gaps and tokens in turn, from an offset on to the script's end
abbrev pub IsCut : ℕ → List ℕ → List Token → Type 0
IsCut at bs [] = Gap bs []
IsCut at bs (t ∷ ts) = (following : List ℕ) × IsFirst at bs t following × IsCut t.end following ts

-- gaps and tokens in turn, from one offset up to another, and the rest from there
abbrev pub IsFront : ℕ → List ℕ → List Token → ℕ → List ℕ → Type 0
IsFront at bs [] end rest = (at ≡ end) × (bs ≡ rest)
IsFront at bs (t ∷ ts) end rest = (following : List ℕ) × IsFirst at bs t following × IsFront t.end following ts end rest
