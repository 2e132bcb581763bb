-- The content and the length of the token that begins here, by its kind.
use Rattle.std.proofs.Common.{◌≡◌, ℕ, suc, ◌+◌, ◌*◌, ◌<◌, ◌≤◌, ◌⊎◌, Bool, true, false, List, ◌∷◌, length, take, drop}
use Rattle.std.proofs.Common.{nat_lt, Option, Some, None, Result, Ok, Err, refl, inl, inr}
use Rattle.std.specs.Prelude.{if◌then◌else◌, ◌==◌}
use Rattle.std.specs.List.{prefix_len}
use Rattle.std.specs.Char.{is_ascii_digit}
use Rattle.std.specs.Str.Parse.{digits_value}
use Rattle.std.proofs.lemmas.Bool.{ltb-true, ltb-false, eqb-true}
use Rattle.sieve_syntax.specs.declared.token.Mark.{Mark}
use Rattle.sieve_syntax.specs.declared.token.TokenKind.{TokenKind}
use Rattle.sieve_syntax.specs.declared.token.TokenKind.TheVariants as kinds
use Rattle.sieve_text.specs.declared.fault.ScanRefusal.{ScanRefusal}
use Rattle.sieve_text.specs.declared.fault.ScanRefusal.TheVariants.{NoToken, StringNotClosed, CommentNotClosed, NumberTooLarge, StringTooLong}
use Rattle.sieve_text.specs.Octets.{is_blank, is_start, is_word, begins, line_end_len}
use Rattle.sieve_text.specs.Gaps.{opens_bracketed}
use Rattle.sieve_text.specs.Strings.{quoted_len, quoted_value, begins_text, opening_end_at, lines_len, lines_value}
use Rattle.sieve_text.specs.Tokens.{mark_of, mark_kind, string_kind, quoted_at, lines_at, multi_line_at, tag_at}
use Rattle.sieve_text.specs.Tokens.{factor_at, number_at, identifier_at, kind_at, ◌>>=◌}

-- what was read
abbrev pub read_as : {A : Type 0} → A → Result A ScanRefusal
read_as x = Ok x

pub same_kind : {A : Type 0} (x y : A) → read_as x ≡ Ok y → x ≡ y
same_kind x y e = cc

pub no_kind : {A : Type 0} (refusal : ScanRefusal) (x : A) → Err refusal ≡ Ok x → ⊥
no_kind refusal x e = cc

-- which way a test went, where something was read
pub tested : {A : Type 0} (t : Bool) (x y : Result A ScanRefusal) (k : A) → (if t then x else y) ≡ Ok k
    → ((t ≡ true) × (x ≡ Ok k)) ⊎ ((t ≡ false) × (y ≡ Ok k))
tested true x y k e = inl (refl, e)
tested false x y k e = inr (refl, e)

pub bound_parts : {A B : Type 0} (x : Result A ScanRefusal) (f : A → Result B ScanRefusal) (k : B) → (x >>= f) ≡ Ok k
    → (a : A) × (x ≡ Ok a) × (f a ≡ Ok k)
bound_parts (Ok a) f k e = (a, refl, e)
bound_parts (Err refusal) f k e = absurd (no_kind refusal k e)

pub string_parts : (value : List ℕ) (n : ℕ) (k : TokenKind × ℕ) → string_kind value n ≡ Ok k → (length value ≤ 65535)
    × ((kinds.StringValue value, n) ≡ k)
string_parts value n k e = elim (tested (nat_lt 65535 (length value)) (Err StringTooLong) (Ok (kinds.StringValue value, n)) k e) [
  | inl h ↦ absurd (no_kind StringTooLong k h.1)
  | inr h ↦ (ltb-false 65535 (length value) h.0, same_kind (kinds.StringValue value, n) k h.1)
]

-- a string of n octets that ends in the text
closed_string : (bs value : List ℕ) (n m : ℕ) (k : TokenKind × ℕ)
    → (if nat_lt n (length bs) then string_kind value m else Err StringNotClosed) ≡ Ok k
    → (n < length bs) × (length value ≤ 65535) × ((kinds.StringValue value, m) ≡ k)
closed_string bs value n m k e = elim (tested (nat_lt n (length bs)) (string_kind value m) (Err StringNotClosed) k e) [
  | inl h ↦ (let s = string_parts value m k h.1 in (ltb-true n (length bs) h.0, s.0, s.1))
  | inr h ↦ absurd (no_kind StringNotClosed k h.1)
]

pub quoted_parts : (bs : List ℕ) (k : TokenKind × ℕ) → quoted_at bs ≡ Ok k → (quoted_len false bs < length bs)
    × (length (quoted_value (take (quoted_len false bs) bs)) ≤ 65535)
    × ((kinds.StringValue (quoted_value (take (quoted_len false bs) bs)), quoted_len false bs + 2) ≡ k)
unfolding quoted_at
quoted_parts bs k e = closed_string bs _ (quoted_len false bs) _ k e

pub lines_parts : (before : ℕ) (bs : List ℕ) (k : TokenKind × ℕ) → lines_at before bs ≡ Ok k
    → (lines_len true bs < length bs) × (length (lines_value (take (lines_len true bs) bs)) ≤ 65535)
    × ((
      kinds.StringValue (lines_value (take (lines_len true bs) bs)),
      before + (lines_len true bs + (1 + line_end_len (drop (lines_len true bs + 1) bs))),
    ) ≡ k)
unfolding lines_at
lines_parts before bs k e = closed_string bs _ (lines_len true bs) _ k e

-- a multi-line string: where its lines begin
pub multi_line_parts : (bs : List ℕ) (k : TokenKind × ℕ) → multi_line_at bs ≡ Ok k → (n : ℕ)
    × (opening_end_at (drop (prefix_len is_blank bs) bs) ≡ Ok n)
    × (lines_at (5 + (prefix_len is_blank bs + n)) (drop (prefix_len is_blank bs + n) bs) ≡ Ok k)
unfolding multi_line_at
multi_line_parts bs k e = bound_parts (opening_end_at (drop (prefix_len is_blank bs) bs)) (λ n.
    lines_at (5 + (prefix_len is_blank bs + n)) (drop (prefix_len is_blank bs + n) bs)) k e

pub tag_parts : (bs : List ℕ) (k : TokenKind × ℕ) → tag_at bs ≡ Ok k → (begins is_start bs ≡ true)
    × ((kinds.Tag (take (prefix_len is_word bs) bs), suc (prefix_len is_word bs)) ≡ k)
unfolding tag_at
tag_parts bs k e = elim (tested (begins is_start bs) (Ok (kinds.Tag _, _)) (Err NoToken) k e) [
  | inl h ↦ (h.0, same_kind _ k h.1)
  | inr h ↦ absurd (no_kind NoToken k h.1)
]

pub number_parts : (bs : List ℕ) (k : TokenKind × ℕ) → number_at bs ≡ Ok k
    → (digits_value 10 (take (prefix_len is_ascii_digit bs) bs) * (factor_at (drop (prefix_len is_ascii_digit bs) bs)).0
    ≤ 9223372036854775807)
    × ((
      kinds.Number (digits_value 10 (take (prefix_len is_ascii_digit bs) bs) *
          (factor_at (drop (prefix_len is_ascii_digit bs) bs)).0),
      prefix_len is_ascii_digit bs + (factor_at (drop (prefix_len is_ascii_digit bs) bs)).1,
    ) ≡ k)
unfolding number_at
number_parts bs k e =
    let n = prefix_len is_ascii_digit bs in
    let value = digits_value 10 (take n bs) * (factor_at (drop n bs)).0 in
    elim (tested (nat_lt 9223372036854775807 value) (Err NumberTooLarge) (Ok (kinds.Number value, n + (factor_at (drop n bs)).1)) k e) [
      | inl h ↦ absurd (no_kind NumberTooLarge k h.1)
      | inr h ↦ (ltb-false 9223372036854775807 value h.0, same_kind _ k h.1)
    ]

pub mark_parts : (m : Option Mark) (k : TokenKind × ℕ) → mark_kind m ≡ Ok k → (mark : Mark) × (m ≡ Some mark) × ((kinds.Mark mark, 1) ≡ k)
mark_parts None k e = absurd (no_kind NoToken k e)
mark_parts (Some mark) k e = (mark, refl, same_kind (kinds.Mark mark, 1) k e)

-- the cases of a token
pub data Branch (b : ℕ) (bs : List ℕ) (k : TokenKind × ℕ) : Type 0 where
  lines : begins_text (b ∷ bs) ≡ true → multi_line_at (drop 5 (b ∷ bs)) ≡ Ok k → Branch b bs k
  name : begins_text (b ∷ bs) ≡ false → is_start b ≡ true
      → (kinds.Identifier (take (prefix_len is_word (b ∷ bs)) (b ∷ bs)), prefix_len is_word (b ∷ bs)) ≡ k
      → Branch b bs k
  digits : is_start b ≡ false → is_ascii_digit b ≡ true → number_at (b ∷ bs) ≡ Ok k → Branch b bs k
  colon : b ≡ 58 → tag_at bs ≡ Ok k → Branch b bs k
  quote : b ≡ 34 → quoted_at bs ≡ Ok k → Branch b bs k
  one : is_start b ≡ false → is_ascii_digit b ≡ false → (b == 58) ≡ false → (b == 34) ≡ false → mark_kind (mark_of b) ≡ Ok k → Branch b bs k

pub branch : (b : ℕ) (bs : List ℕ) (k : TokenKind × ℕ) → kind_at (b ∷ bs) ≡ Ok k → Branch b bs k
unfolding kind_at
branch b bs k e = elim (tested (begins_text (b ∷ bs)) (multi_line_at (drop 5 (b ∷ bs))) _ k e) [
  | inl h ↦ lines h.0 h.1
  | inr h ↦ elim (tested (is_start b) (identifier_at (b ∷ bs)) _ k h.1) [
    | inl h1 ↦ name h.0 h1.0 (same_kind (kinds.Identifier (take (prefix_len is_word (b ∷ bs)) (b ∷ bs)), prefix_len is_word (b ∷ bs)) k h1.1)
    | inr h1 ↦ elim (tested (is_ascii_digit b) (number_at (b ∷ bs)) _ k h1.1) [
      | inl h2 ↦ digits h1.0 h2.0 h2.1
      | inr h2 ↦ elim (tested (b == 58) (tag_at bs) _ k h2.1) [
        | inl h3 ↦ colon (eqb-true b 58 h3.0) h3.1
        | inr h3 ↦ elim (tested (b == 34) (quoted_at bs) _ k h3.1) [
          | inl h4 ↦ quote (eqb-true b 34 h4.0) h4.1
          | inr h4 ↦ elim (tested (opens_bracketed (b ∷ bs)) (Err CommentNotClosed) _ k h4.1) [
            | inl h5 ↦ absurd (no_kind CommentNotClosed k h5.1)
            | inr h5 ↦ one h1.0 h2.0 h3.0 h4.0 h5.1
          ]
        ]
      ]
    ]
  ]
]
