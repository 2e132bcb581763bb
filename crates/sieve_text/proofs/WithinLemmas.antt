-- A token takes an octet at least, and ends within the script.
use Rattle.std.proofs.Common.{◌≡◌, ℕ, suc, ◌+◌, ◌<◌, ◌≤◌, Bool, true, false, List, [], ◌∷◌, length, drop, nat_lt}
use Rattle.std.proofs.Common.{Option, Some, None, Result, Ok, Err, sym, ap, ◌∙◌, arith, inl, inr}
use Rattle.std.specs.Prelude.{if◌then◌else◌, ◌==◌, ◌&&◌, ◌||◌, codes}
use Rattle.std.specs.List.{prefix_len}
use Rattle.std.specs.Char.{is_ascii_digit, to_ascii_lowercase}
use Rattle.std.proofs.lemmas.Bool.{ltb-true, and_parts, or_left, ltb-false}
use Rattle.std.proofs.lemmas.List.{length-drop}
use Rattle.std.proofs.lemmas.List.Sums.{prefix_len-le-length}
use Rattle.sieve_syntax.specs.declared.token.Token.{Token}
use Rattle.sieve_syntax.specs.declared.token.TokenKind.{TokenKind}
use Rattle.sieve_text.specs.declared.fault.ScanRefusal.{ScanRefusal}
use Rattle.sieve_text.specs.declared.fault.ScanRefusal.TheVariants.{NoToken, StringNotClosed}
use Rattle.sieve_text.specs.Octets.{is_blank, is_start, is_word, begins_with, not_lf, line_end_len}
use Rattle.sieve_text.specs.Gaps.{gap_len}
use Rattle.sieve_text.specs.Strings.{begins_as, begins_text, opening_end_at, lines_len}
use Rattle.sieve_text.specs.Tokens.{text_len, mark_of, lines_at, multi_line_at, factor_at, kind_at, token_at, ◌>>=◌}
use Rattle.sieve_text.proofs.KindLemmas.{read_as, tested, bound_parts, same_kind, no_kind, quoted_parts, lines_parts, multi_line_parts, tag_parts}
use Rattle.sieve_text.proofs.KindLemmas.{number_parts, mark_parts, branch, lines, name, digits, colon, quote, one}

-- a front that begins with a passing octet is not empty
pub one_more : (p : ℕ → Bool) (b : ℕ) (bs : List ℕ) → p b ≡ true → 0 < prefix_len p (b ∷ bs)
one_more p b bs h = rw h (omega arith)

if_le : (t : Bool) (x y n : ℕ) → x ≤ n → y ≤ n → (if t then x else y) ≤ n
if_le true x y n h k = h
if_le false x y n h k = k

pub if_le_1 : (t : Bool) (x y : ℕ × ℕ) (n : ℕ) → x.1 ≤ n → y.1 ≤ n → (if t then x else y).1 ≤ n
if_le_1 true x y n h k = h
if_le_1 false x y n h k = k

pub line_end_within : (bs : List ℕ) → line_end_len bs ≤ length bs
line_end_within [] = omega arith
line_end_within (b ∷ []) = if_le (b == 10) 1 (if (b == 13) && false then 2 else 0) 1 (omega arith) (not_both (b == 13))
  where
    not_both : (t : Bool) → (if t && false then 2 else 0) ≤ 1
    not_both true = omega arith
    not_both false = omega arith
line_end_within (b ∷ c ∷ bs) =
    if_le (b == 10) 1 (if (b == 13) && (c == 10) then 2 else 0) (length (b ∷ c ∷ bs)) (omega arith)
    (if_le ((b == 13) && (c == 10)) 2 0 (length (b ∷ c ∷ bs)) (omega arith) (omega arith))

pub text_within : (bs : List ℕ) → begins_text bs ≡ true → 5 ≤ length bs
text_within bs h = as_within (codes "text:") bs h
  where
    as_within : (xs bs : List ℕ) → begins_as xs bs ≡ true → length xs ≤ length bs
    as_within [] bs h = omega arith
    as_within (x ∷ xs) [] h = cc
    as_within (x ∷ xs) (b ∷ bs) h = let r = as_within xs bs (and_parts (to_ascii_lowercase b == x) (begins_as xs bs) h).1 in omega arith

opening_end_within : (bs : List ℕ) (n : ℕ) → opening_end_at bs ≡ Ok n → n ≤ length bs
opening_end_within bs n e = elim (tested (length bs == 0) (Err StringNotClosed) _ n e) [
  | inl h ↦ absurd (no_kind StringNotClosed n h.1)
  | inr h ↦ elim
      (tested (begins_with 35 bs) (if nat_lt (prefix_len not_lf bs) (length bs) then Ok (suc (prefix_len not_lf bs))
      else Err StringNotClosed) _ n h.1) [
        | inl h1 ↦ elim (tested (nat_lt (prefix_len not_lf bs) (length bs)) (Ok (suc (prefix_len not_lf bs))) (Err StringNotClosed) n h1.1) [
          | inl h2 ↦ (let s = same_kind (suc (prefix_len not_lf bs)) n h2.1 in
              let l = ltb-true (prefix_len not_lf bs) (length bs) h2.0 in omega arith)
          | inr h2 ↦ absurd (no_kind StringNotClosed n h2.1)
        ]
        | inr h1 ↦ elim (tested (nat_lt 0 (line_end_len bs)) (Ok (line_end_len bs)) (Err NoToken) n h1.1) [
          | inl h2 ↦ (let s = same_kind (line_end_len bs) n h2.1 in let l = line_end_within bs in omega arith)
          | inr h2 ↦ absurd (no_kind NoToken n h2.1)
        ]
      ]
]

lines_within : (before : ℕ) (bs : List ℕ) (k : TokenKind × ℕ) → lines_at before bs ≡ Ok k → (before < k.1) × (k.1 ≤ before + length bs)
lines_within before bs k e =
    let p = lines_parts before bs k e in
    let n = ap (λ (k : TokenKind × ℕ). k.1) p.2 in
    let l = line_end_within (drop (lines_len true bs + 1) bs) in
    let d = length-drop (lines_len true bs + 1) bs in
    (omega arith, omega arith)

pub multi_line_within : (bs : List ℕ) (k : TokenKind × ℕ) → multi_line_at bs ≡ Ok k → (5 < k.1) × (k.1 ≤ 5 + length bs)
multi_line_within bs k e =
    let p = multi_line_parts bs k e in
    let o = opening_end_within (drop (prefix_len is_blank bs) bs) p.0 p.1 in
    let l = lines_within (5 + (prefix_len is_blank bs + p.0)) (drop (prefix_len is_blank bs + p.0) bs) k p.2 in
    let b = prefix_len-le-length is_blank bs in
    let c = length-drop (prefix_len is_blank bs) bs in
    let d = length-drop (prefix_len is_blank bs + p.0) bs in
    (omega arith, omega arith)

pub factor_within : (bs : List ℕ) → (factor_at bs).1 ≤ length bs
factor_within [] = omega arith
factor_within (b ∷ bs) =
    let n : ℕ = length (b ∷ bs) in
    if_le_1 ((b == 75) || (b == 107)) (1024, 1) _ n (omega arith) (if_le_1 ((b == 77) || (b == 109)) (
      1048576,
      1,
    ) _ n (omega arith) (if_le_1 ((b == 71) || (b == 103)) (1073741824, 1) (1, 0) n (omega arith) (omega arith)))

pub nothing_here : (k : TokenKind × ℕ) → kind_at [] ≡ Ok k → ⊥
unfolding kind_at
nothing_here k e = no_kind NoToken k e

-- a token has an octet at least, and no more than there are
pub kind_within : (bs : List ℕ) (k : TokenKind × ℕ) → kind_at bs ≡ Ok k → (0 < k.1) × (k.1 ≤ length bs)
kind_within [] k e = absurd (nothing_here k e)
kind_within (b ∷ bs) k e = elim (branch b bs k e) [
  | lines t h ↦ (let w = text_within (b ∷ bs) t in let m = multi_line_within (drop 5 (b ∷ bs)) k h in let d =
      length-drop 5 (b ∷ bs) in (omega arith, omega arith))
  | name t s h ↦ (let l = prefix_len-le-length is_word (b ∷ bs) in let n = ap (λ (k : TokenKind × ℕ). k.1) h in let o =
      one_more is_word b bs (or_left (is_start b) (is_ascii_digit b) s) in (omega arith, omega arith))
  | digits t s h ↦ (
      let p = number_parts (b ∷ bs) k h in
      let n = ap (λ (k : TokenKind × ℕ). k.1) p.1 in
      let o = one_more is_ascii_digit b bs s in
      let l = prefix_len-le-length is_ascii_digit (b ∷ bs) in
      let f = factor_within (drop (prefix_len is_ascii_digit (b ∷ bs)) (b ∷ bs)) in
      let d = length-drop (prefix_len is_ascii_digit (b ∷ bs)) (b ∷ bs) in
      (omega arith, omega arith))
  | colon t h ↦ (let p = tag_parts bs k h in let n = ap (λ (k : TokenKind × ℕ). k.1) p.1 in let l =
      prefix_len-le-length is_word bs in (omega arith, omega arith))
  | quote t h ↦ (let p = quoted_parts bs k h in let n = ap (λ (k : TokenKind × ℕ). k.1) p.2 in (omega arith, omega arith))
  | one s d c q h ↦ (let p = mark_parts (mark_of b) k h in let n = ap (λ (k : TokenKind × ℕ). k.1) p.2 in (omega arith, omega arith))
]

some_token : (t u : Token) → read_as (Some t) ≡ Ok (Some u) → t ≡ u
some_token t u e = cc

no_token : (t : Token) → read_as None ≡ Ok (Some t) → ⊥
no_token t e = cc

-- the place of a token, and its kind
pub record IsTokenAt (script : List ℕ) (at : ℕ) (t : Token) : Type 0 where
  pub begins : t.start ≡ at + gap_len 0 (drop at script)
  pub kind : TokenKind × ℕ
  pub read : kind_at (drop t.start script) ≡ Ok kind
  pub says : t.kind ≡ kind.0
  pub ends : t.end ≡ t.start + kind.1

pub token_parts : (script : List ℕ) (at : ℕ) (t : Token) → token_at script at ≡ Ok (Some t) → IsTokenAt script at t
unfolding token_at
token_parts script at t e = elim (tested (nat_lt start (length script)) (kind_at (drop start script) >>= made) (Ok None) (Some t) e) [
  | inl h ↦ (let p = bound_parts (kind_at (drop start script)) made (Some t) h.1 in found p.0 p.1 p.2)
  | inr h ↦ absurd (no_token t h.1)
]
  where
    start : ℕ
    start = at + gap_len 0 (drop at script)

    made : TokenKind × ℕ → Result (Option Token) ScanRefusal
    made k = Ok (Some (record { kind = k.0; start = start; end = start + k.1 }))

    found : (k : TokenKind × ℕ) → kind_at (drop start script) ≡ Ok k → made k ≡ Ok (Some t) → IsTokenAt script at t
    found k r m =
        let same = some_token (record { kind = k.0; start = start; end = start + k.1 }) t m in
        let s : start ≡ t.start = ap (λ (t : Token). t.start) same in
        record {
          begins = sym s;
          kind = k;
          read = rw s at r;
          says = sym (ap (λ (t : Token). t.kind) same);
          ends =
              sym (ap (λ (t : Token). t.end) same) ∙ ap (λ n. n + k.1) s;
        }

-- where no token is found the script ends
pub ends_at : (script : List ℕ) (at : ℕ) → token_at script at ≡ Ok None → length script ≤ at + gap_len 0 (drop at script)
unfolding token_at
ends_at script at e = elim (tested (nat_lt start (length script)) (kind_at (drop start script) >>= made) (Ok None) None e) [
  | inl h ↦ (let p = bound_parts (kind_at (drop start script)) made None h.1 in
      absurd (clash (record { kind = p.0.0; start = start; end = start + p.0.1 }) p.2))
  | inr h ↦ ltb-false start (length script) h.0
]
  where
    start : ℕ
    start = at + gap_len 0 (drop at script)

    made : TokenKind × ℕ → Result (Option Token) ScanRefusal
    made k = Ok (Some (record { kind = k.0; start = start; end = start + k.1 }))

    clash : (t : Token) → read_as {A = Option Token} (Some t) ≡ Ok None → ⊥
    clash t f = cc

pub token_within : (script : List ℕ) (at : ℕ) (t : Token) → at ≤ length script → token_at script at ≡ Ok (Some t)
    → (at ≤ t.start) × (t.start < t.end) × (t.end ≤ length script)
token_within script at t within e =
    let p = token_parts script at t e in
    let k = kind_within (drop t.start script) p.kind p.read in
    let d = length-drop t.start script in
    let b = p.begins in
    let n = p.ends in
    (omega arith, omega arith, omega arith)

-- a fault is at the first octet if no "text:" begins there
pub no_text : (at : ℕ) (bs : List ℕ) → begins_text bs ≡ false → at + text_len bs ≡ at
no_text at bs h = rw h (omega arith)
