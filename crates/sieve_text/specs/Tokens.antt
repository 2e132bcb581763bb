-- The tokens of a script (RFC 5228, section 8.1): gaps and tokens in turn, each token the longest that fits.
use Rattle.std.specs.Prelude.{◌≡◌, ℕ, suc, ◌+◌, ◌*◌, ◌<◌, ◌≤◌, ◌⊎◌, true, false, List, [], ◌∷◌, length, take, drop, Option, Some, None, Result, Ok, Err, nat_lt, ◌==◌, ◌||◌, if◌then◌else◌}
use Rattle.std.specs.List.{prefix_len}
use Rattle.std.specs.Char.{is_ascii_digit}
use Rattle.std.specs.Str.{IsUtf8}
use Rattle.std.specs.Str.Parse.{digits_value}
use Rattle.sieve_syntax.specs.declared.token.Mark.{Mark}
use Rattle.sieve_syntax.specs.declared.token.Mark.TheVariants.{Semicolon, OpenBrace, CloseBrace, OpenParen, CloseParen, OpenBracket, CloseBracket, Comma}
use Rattle.sieve_syntax.specs.declared.token.TokenKind.{TokenKind}
use Rattle.sieve_syntax.specs.declared.token.TokenKind.TheVariants as kinds
use Rattle.sieve_syntax.specs.declared.token.Token.{Token}
use Rattle.sieve_text.specs.declared.fault.ScanRefusal.{ScanRefusal}
use Rattle.sieve_text.specs.declared.fault.ScanRefusal.TheVariants.{NotUtf8, NoToken, StringNotClosed, CommentNotClosed, NumberTooLarge, ScriptTooLong, StringTooLong}
use Rattle.sieve_text.specs.declared.fault.FaultyPlace.{FaultyPlace}
use Rattle.sieve_text.specs.declared.fault.ScanFault.{ScanFault}
use Rattle.sieve_text.specs.declared.fault.ScanFault.TheVariants.{NoMemory, Refused}
use Rattle.sieve_text.specs.Octets.{is_blank, is_start, is_word, begins, stray_len, line_end_len}
use Rattle.sieve_text.specs.Gaps.{gap_len, opens_bracketed}
use Rattle.sieve_text.specs.Strings.{quoted_len, quoted_value, begins_text, opening_end_at, lines_len, lines_value}

-- the number of a refusal
abbrev pub scan_number : ScanRefusal → ℕ
scan_number NotUtf8 = 10
scan_number NoToken = 11
scan_number StringNotClosed = 12
scan_number CommentNotClosed = 13
scan_number NumberTooLarge = 14
scan_number ScriptTooLong = 15
scan_number StringTooLong = 16

abbrev pub mark_of : ℕ → Option Mark
mark_of b = if b == 59 then Some Semicolon else if b == 123 then Some OpenBrace else if b == 125 then Some CloseBrace
    else if b == 40 then Some OpenParen else if b == 41 then Some CloseParen
    else if b == 91 then Some OpenBracket else if b == 93 then Some CloseBracket else if b == 44 then Some Comma
    else None

infixl 10 ◌>>=◌
abbrev pub ◌>>=◌ : {A B : Type 0} → Result A ScanRefusal → (A → Result B ScanRefusal) → Result B ScanRefusal
(Ok x) >>= f = f x
(Err e) >>= f = Err e

abbrev pub mark_kind : Option Mark → Result (TokenKind × ℕ) ScanRefusal
mark_kind None = Err NoToken
mark_kind (Some m) = Ok (kinds.Mark m, 1)

-- a string with this value and this length as written; a value has at most 65,535 octets
abbrev pub string_kind : List ℕ → ℕ → Result (TokenKind × ℕ) ScanRefusal
string_kind value n = if nat_lt 65535 (length value) then Err StringTooLong else Ok (kinds.StringValue value, n)

-- a quoted string after its first quotation mark
unfoldable pub quoted_at : List ℕ → Result (TokenKind × ℕ) ScanRefusal
quoted_at bs =
    let n = quoted_len false bs in
    if nat_lt n (length bs) then string_kind (quoted_value (take n bs)) (n + 2) else Err StringNotClosed

-- the lines of a multi-line string, and the single dot that ends them with its line end; the number is how many octets
-- come before
unfoldable pub lines_at : ℕ → List ℕ → Result (TokenKind × ℕ) ScanRefusal
lines_at before bs =
    let n = lines_len true bs in
    if nat_lt n (length bs) then string_kind (lines_value (take n bs))
    (before + (n + (1 + line_end_len (drop (n + 1) bs)))) else Err StringNotClosed

-- a multi-line string after its "text:": blanks, perhaps a hash comment, a line end and the lines
unfoldable pub multi_line_at : List ℕ → Result (TokenKind × ℕ) ScanRefusal
multi_line_at bs =
    let blanks = prefix_len is_blank bs in
    opening_end_at (drop blanks bs) >>= λ n. lines_at (5 + (blanks + n)) (drop (blanks + n) bs)

-- a tag after its colon
unfoldable pub tag_at : List ℕ → Result (TokenKind × ℕ) ScanRefusal
tag_at bs = if begins is_start bs then Ok (kinds.Tag (take (prefix_len is_word bs) bs), suc (prefix_len is_word bs))
    else Err NoToken

-- the quantifiers K, M and G in either case: 2^10, 2^20 and 2^30, each on one octet; 1 on none where none comes first
abbrev pub factor_at : List ℕ → ℕ × ℕ
factor_at [] = (1, 0)
factor_at (b ∷ bs) =
    if (b == 75) || (b == 107) then (1024, 1) else if (b == 77) || (b == 109) then (1048576, 1)
    else if (b == 71) || (b == 103) then (1073741824, 1) else (1, 0)

-- digits and perhaps a quantifier; a number is at most 2^63 - 1 with its factor
unfoldable pub number_at : List ℕ → Result (TokenKind × ℕ) ScanRefusal
number_at bs =
    let n = prefix_len is_ascii_digit bs in
    let factor = factor_at (drop n bs) in
    let value = digits_value 10 (take n bs) * factor.0 in
    if nat_lt 9223372036854775807 value then Err NumberTooLarge else Ok (kinds.Number value, n + factor.1)

abbrev pub identifier_at : List ℕ → Result (TokenKind × ℕ) ScanRefusal
identifier_at bs = Ok (kinds.Identifier (take (prefix_len is_word bs) bs), prefix_len is_word bs)

-- the longest token that begins here, and its length in octets; or why none begins here. A comment that begins here is
-- not closed, as closed ones are part of the gap
unfoldable pub kind_at : List ℕ → Result (TokenKind × ℕ) ScanRefusal
kind_at [] = Err NoToken
kind_at (b ∷ bs) =
    if begins_text (b ∷ bs) then multi_line_at (drop 5 (b ∷ bs))
    else if is_start b then identifier_at (b ∷ bs)
    else if is_ascii_digit b then number_at (b ∷ bs)
    else if b == 58 then tag_at bs
    else if b == 34 then quoted_at bs
    else if opens_bracketed (b ∷ bs) then Err CommentNotClosed
    else mark_kind (mark_of b)

-- the next token from an offset on, if there is one
unfoldable pub token_at : List ℕ → ℕ → Result (Option Token) ScanRefusal
token_at script at =
    let start = at + gap_len 0 (drop at script) in
    if nat_lt start (length script) then (kind_at (drop start script) >>= λ k. Ok (Some (record { kind = k.0; start = start; end = start + k.1 }))) else Ok None

-- these tokens come from an offset on, and the last one ends at another
abbrev pub Reads : List ℕ → ℕ → List Token → ℕ → Type 0
Reads script at [] end = at ≡ end
Reads script at (t ∷ ts) end = (token_at script at ≡ Ok (Some t)) × Reads script t.end ts end

-- the check before the tokens finds nothing: at most 262,144 octets, UTF-8, no octet 0, no CR without LF
abbrev pub IsSound : List ℕ → Type 0
IsSound script = (length script ≤ 262144) × IsUtf8 script × (stray_len script ≡ length script)

-- the first of these that fails
abbrev pub IsUnsound : List ℕ → ScanRefusal → Type 0
IsUnsound script ScriptTooLong = 262144 < length script
IsUnsound script NotUtf8 = (length script ≤ 262144) × ¬ (IsUtf8 script)
IsUnsound script NoToken = (length script ≤ 262144) × IsUtf8 script × (stray_len script < length script)
IsUnsound script StringNotClosed = ⊥
IsUnsound script CommentNotClosed = ⊥
IsUnsound script NumberTooLarge = ⊥
IsUnsound script StringTooLong = ⊥

-- the tokens of a script, all of them
abbrev pub IsScan : List ℕ → List Token → Type 0
IsScan script ts = IsSound script × ((end : ℕ) × Reads script 0 ts end × (token_at script end ≡ Ok None))

-- the first faulty place, after some tokens
abbrev pub IsFirstFault : List ℕ → ScanRefusal → Type 0
IsFirstFault script refusal = (ts : List Token) × (end : ℕ) × Reads script 0 ts end ×
    (token_at script end ≡ Err refusal)

-- why a text is no sequence of tokens: it is unsound, or else its first faulty place
abbrev pub IsFaulty : List ℕ → ScanRefusal → Type 0
IsFaulty script refusal = IsUnsound script refusal ⊎ (IsSound script × IsFirstFault script refusal)

-- a call's answer is this one, as seen through the view
abbrev pub Gives : {X Y : Type 0} → (X → Y) → Result X FaultyPlace → Result Y ScanRefusal → Type 0
Gives view (Ok x) read = read ≡ Ok (view x)
Gives view (Err e) read = read ≡ Err e.refusal

-- the refusal is the script's, unless memory ran out
abbrev pub FaultsBy : List ℕ → ScanFault → Type 0
FaultsBy script NoMemory = Unit {0}
FaultsBy script (Refused refusal at) = IsFaulty script refusal

-- the place of a refusal: the second one where no token is found, and the first one otherwise
abbrev pub either_place : ℕ → ℕ → ScanRefusal → ℕ
either_place first octet NoToken = octet
either_place first octet NotUtf8 = first
either_place first octet StringNotClosed = first
either_place first octet CommentNotClosed = first
either_place first octet NumberTooLarge = first
either_place first octet ScriptTooLong = first
either_place first octet StringTooLong = first

-- the length in octets of "text:" and the blanks after it, if it begins here
abbrev pub text_len : List ℕ → ℕ
text_len bs = if begins_text bs then 5 + prefix_len is_blank (drop 5 bs) else 0

-- the place of the refusal of what begins after the gap from an offset on: its first octet, or for `NoToken` the octet
-- that cannot be there, which may come after "text:" and blanks
abbrev pub fault_place : List ℕ → ℕ → ScanRefusal → ℕ
fault_place script at = let start = at + gap_len 0 (drop at script) in either_place start
    (start + text_len (drop start script))

-- the refusal is at this place
abbrev pub StandsAt : (ScanRefusal → ℕ) → FaultyPlace → Type 0
StandsAt place e = e.at ≡ place e.refusal

-- the refusal is at the first stray octet or at the start of an unsound script, or at the first faulty place
abbrev pub StandsIn : List ℕ → ScanFault → Type 0
StandsIn script NoMemory = Unit {0}
StandsIn script (Refused refusal at) =
    (IsUnsound script refusal × (at ≡ either_place 0 (stray_len script) refusal))
    ⊎ (IsSound script × ((ts : List Token) × (end : ℕ) × Reads script 0 ts end × (token_at script end ≡ Err refusal) ×
    (at ≡ fault_place script end refusal)))
