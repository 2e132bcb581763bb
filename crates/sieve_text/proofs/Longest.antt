-- A token by the grammar is no longer than what is read in its place.
use Rattle.std.proofs.Common.{◌≡◌, ℕ, suc, ◌+◌, ◌<◌, ◌≤◌, ◌⊎◌, Bool, true, false, List, [], ◌∷◌, ◌++◌, length, map}
use Rattle.std.proofs.Common.{take, drop, Ok, refl, sym, ap, ◌∙◌, arith, inl, inr, length-append, append_assoc}
use Rattle.std.specs.Prelude.{◌==◌, ◌||◌, codes}
use Rattle.std.specs.List.{prefix_len, list_all}
use Rattle.std.specs.Char.{is_ascii_digit, to_ascii_lowercase}
use Rattle.std.proofs.lemmas.Bool.{false≢true, true≢false, both_ways, cases_Bool, cases_lt, eqb-true, eq-eqb, ne_eqb}
use Rattle.std.proofs.lemmas.Bool.{lt-ltb, le-ltb, lt-leb, and_parts, and_from}
use Rattle.std.proofs.lemmas.List.{length-map}
use Rattle.std.proofs.lemmas.List.Folds.{list_all-append}
use Rattle.std.proofs.Math.Seq.{drop-append_seam, drop-append-add}
use Rattle.sieve_text.proofs.NumberLemmas.{digit_bounds}
use Rattle.sieve_syntax.specs.declared.token.TokenKind.{TokenKind}
use Rattle.sieve_syntax.specs.declared.token.TokenKind.TheVariants as kinds
use Rattle.sieve_text.specs.Octets.{is_blank, is_start, is_word, not_lf, begins, begins_with, line_end_len}
use Rattle.sieve_text.specs.Strings.{quoted_len, begins_as, begins_text, opening_end_at, is_last_line, lines_len, lines_value}
use Rattle.sieve_text.specs.Tokens.{lines_at, multi_line_at, factor_at, kind_at}
use Rattle.sieve_text.specs.TokenGrammar.{IsName, QuotedText, quoted_end, quoted_plain, quoted_pair, IsLineEnd, Lines}
use Rattle.sieve_text.specs.TokenGrammar.{no_lines, line, IsMultiLine, Lexeme, IsApart}
use Rattle.sieve_text.proofs.GapFound.{exactly}
use Rattle.sieve_text.proofs.GapLemmas.{drop_more}
use Rattle.sieve_text.proofs.GrammarParts.{quantifier_counts}
use Rattle.sieve_text.proofs.KindLemmas.{same_kind, quoted_parts, lines_parts, multi_line_parts, tag_parts}
use Rattle.sieve_text.proofs.KindLemmas.{number_parts, branch, lines, name, digits, colon, quote, one}
use Rattle.sieve_text.proofs.WithinLemmas.{if_le_1, kind_within, multi_line_within}
use Rattle.sieve_text.proofs.KindGrammar.{line_rest, no_last, last_here, dot_line, suc_eqb}

at_least : (p : ℕ → Bool) (xs ys : List ℕ) → list_all p xs ≡ true → length xs ≤ prefix_len p (xs ++ ys)
at_least p [] ys h = omega arith
at_least p (x ∷ xs) ys h =
    let t = and_parts (p x) (list_all p xs) h in
    let r = at_least p xs ys t.1 in
    rw t.0 (omega arith)

ends_at : (k l : TokenKind × ℕ) → k ≡ l → k.1 ≡ l.1
ends_at k l e = ap (λ (k : TokenKind × ℕ). k.1) e

-- octets of one class are of no other
pub lower_below : (b : ℕ) → b < 65 → to_ascii_lowercase b ≡ b
lower_below b h = rw (lt-ltb b 65 h) refl

pub lower_above : (b : ℕ) → 91 ≤ b → to_ascii_lowercase b ≡ b
lower_above b h = rw (le-ltb b 65 (omega arith), le-ltb b 91 h) refl

pub lower_between : (b : ℕ) → 65 ≤ b → b < 91 → to_ascii_lowercase b ≡ b + 32
lower_between b h k = rw (le-ltb b 65 h, lt-ltb b 91 k) refl

pub colon_only : (b : ℕ) → to_ascii_lowercase b ≡ 58 → b ≡ 58
colon_only b e = elim (cases_lt b 65) [
  | inl h ↦ sym (lower_below b h) ∙ e
  | inr h ↦ elim (cases_lt b 91) [
    | inl k ↦ (let l = lower_between b h k in absurd (omega arith))
    | inr k ↦ sym (lower_above b k) ∙ e
  ]
]

pub t_starts : (b : ℕ) → to_ascii_lowercase b ≡ 116 → is_start b ≡ true
t_starts b e = elim (cases_lt b 65) [
  | inl h ↦ (let l = lower_below b h in absurd (omega arith))
  | inr h ↦ elim (cases_lt b 91) [
    | inl k ↦ (let l = lower_between b h k in let is : b ≡ 84 = omega arith in rw is refl)
    | inr k ↦ (let is : b ≡ 116 = sym (lower_above b k) ∙ e in rw is refl)
  ]
]

pub digit_no_t : (b : ℕ) → is_ascii_digit b ≡ true → to_ascii_lowercase b ≡ 116 → ⊥
digit_no_t b h e = let d = digit_bounds b h in let l = lower_below b (omega arith) in omega arith

pub digit_no_start : (b : ℕ) → is_ascii_digit b ≡ true → is_start b ≡ false
digit_no_start b h =
    let d = digit_bounds b h in
    rw (lt-leb 65 b (omega arith), lt-leb 97 b (omega arith), ne_eqb b 95 (λ e. omega arith)) refl

pub digit_no_factor : (b : ℕ) (bs : List ℕ) → is_ascii_digit b ≡ true → (factor_at (b ∷ bs)).1 ≡ 0
digit_no_factor b bs h =
    let d = digit_bounds b h in
    rw (
      ne_eqb b 75 (λ e. omega arith),
      ne_eqb b 107 (λ e. omega arith),
      ne_eqb b 77 (λ e. omega arith),
      ne_eqb b 109 (λ e. omega arith),
      ne_eqb b 71 (λ e. omega arith),
      ne_eqb b 103 (λ e. omega arith),
    ) refl

-- an identifier
pub no_word : (b : ℕ) → to_ascii_lowercase b ≡ 58 → is_word b ≡ true → ⊥
no_word b e h = false≢true (rw (colon_only b e) at h)

before_colon : (xs following : List ℕ) → list_all is_word xs ≡ true → begins_text (xs ++ following) ≡ true → length xs ≤ 4
before_colon [] following h t = omega arith
before_colon (a ∷ []) following h t = omega arith
before_colon (a ∷ b ∷ []) following h t = omega arith
before_colon (a ∷ b ∷ c ∷ []) following h t = omega arith
before_colon (a ∷ b ∷ c ∷ d ∷ []) following h t = omega arith
before_colon (a ∷ b ∷ c ∷ d ∷ e ∷ xs) following h t =
    let h1 = and_parts (is_word a) (list_all is_word (b ∷ c ∷ d ∷ e ∷ xs)) h in
    let h2 = and_parts (is_word b) (list_all is_word (c ∷ d ∷ e ∷ xs)) h1.1 in
    let h3 = and_parts (is_word c) (list_all is_word (d ∷ e ∷ xs)) h2.1 in
    let h4 = and_parts (is_word d) (list_all is_word (e ∷ xs)) h3.1 in
    let h5 = and_parts (is_word e) (list_all is_word xs) h4.1 in
    let t1 = and_parts (to_ascii_lowercase a == 116) (begins_as (codes "ext:") (b ∷ c ∷ d ∷ e ∷ (xs ++ following))) t in
    let t2 = and_parts (to_ascii_lowercase b == 101) (begins_as (codes "xt:") (c ∷ d ∷ e ∷ (xs ++ following))) t1.1 in
    let t3 = and_parts (to_ascii_lowercase c == 120) (begins_as (codes "t:") (d ∷ e ∷ (xs ++ following))) t2.1 in
    let t4 = and_parts (to_ascii_lowercase d == 116) (begins_as (codes ":") (e ∷ (xs ++ following))) t3.1 in
    let t5 = and_parts (to_ascii_lowercase e == 58) true t4.1 in
    absurd (no_word e (eqb-true (to_ascii_lowercase e) 58 t5.0) h5.0)

name_short : (xs following : List ℕ) (k : TokenKind × ℕ) → IsName xs → kind_at (xs ++ following) ≡ Ok k → length xs ≤ k.1
name_short [] following k h e = omega arith
name_short (b ∷ bs) following k h e = elim (branch b (bs ++ following) k e) [
  | lines t m ↦ (let w = multi_line_within (drop 5 (b ∷ (bs ++ following))) k m in let l = before_colon (b ∷ bs) following h.1 t in omega arith)
  | name t s m ↦
      (let n = ends_at (
        kinds.Identifier (take (prefix_len is_word (b ∷ (bs ++ following))) (b ∷ (bs ++ following))),
        prefix_len is_word (b ∷ (bs ++ following)),
      ) k m in let l = at_least is_word (b ∷ bs) following h.1 in omega arith)
  | digits t s m ↦ absurd (both_ways (is_start b) t h.0)
  | colon t m ↦ absurd (false≢true (rw t at h.0))
  | quote t m ↦ absurd (false≢true (rw t at h.0))
  | one s d c q m ↦ absurd (both_ways (is_start b) s h.0)
]

-- a tag
tag_short : (xs following : List ℕ) (k : TokenKind × ℕ) → IsName xs → kind_at (58 ∷ (xs ++ following)) ≡ Ok k → suc (length xs) ≤ k.1
tag_short xs following k h e = elim (branch 58 (xs ++ following) k e) [
  | lines t m ↦ absurd (false≢true t)
  | name t s m ↦ absurd (false≢true s)
  | digits t s m ↦ absurd (false≢true s)
  | colon t m ↦ (
      let p = tag_parts (xs ++ following) k m in
      let n = ends_at (kinds.Tag (take (prefix_len is_word (xs ++ following)) (xs ++ following)), suc (prefix_len is_word (xs ++ following))) k p.1 in
      let l = at_least is_word xs following h.1 in
      omega arith)
  | quote t m ↦ absurd (omega arith)
  | one s d c q m ↦ absurd (true≢false c)
]

-- a number
factor_short : (b : ℕ) (bs : List ℕ) → (factor_at (b ∷ bs)).1 ≤ 1
factor_short b bs =
    if_le_1 ((b == 75) || (b == 107)) (1024, 1) _ 1 (omega arith) (if_le_1 ((b == 77) || (b == 109)) (
      1048576,
      1,
    ) _ 1 (omega arith) (if_le_1 ((b == 71) || (b == 103)) (1073741824, 1) (1, 0) 1 (omega arith) (omega arith)))

pub digits_short : (ds quantifier following : List ℕ) (factor : ℕ) → list_all is_ascii_digit ds ≡ true
    → factor_at quantifier ≡ (factor, length quantifier) → length ds + length quantifier ≤ prefix_len is_ascii_digit (ds
    ++ (quantifier ++ following)) + (factor_at (drop (prefix_len is_ascii_digit (ds ++ (quantifier ++ following))) (ds
    ++ (quantifier ++ following)))).1
digits_short ds [] following factor h f = let l = at_least is_ascii_digit ds following h in omega arith
digits_short ds (q ∷ more) following factor h f =
    let one_octet : (factor_at (q ∷ more)).1 ≡ suc (length more) = ap (λ (x : ℕ × ℕ). x.1) f in
    let short = factor_short q more in
    let plain : is_ascii_digit q ≡ false = no_digit (is_ascii_digit q) refl in
    let n = exactly is_ascii_digit ds (q ∷ (more ++ following)) h plain in
    let d = drop-append_seam ds (q ∷ (more ++ following)) in
    rw (n, d) (omega arith)
  where
    no_digit : (t : Bool) → is_ascii_digit q ≡ t → t ≡ false
    no_digit true e = let z = digit_no_factor q more e in let o = ap (λ (x : ℕ × ℕ). x.1) f in absurd (omega arith)
    no_digit false e = refl

number_short : (ds quantifier following : List ℕ) (factor : ℕ) (k : TokenKind × ℕ) → 0 < length ds
    → list_all is_ascii_digit ds ≡ true → factor_at quantifier ≡ (factor, length quantifier)
    → kind_at (ds ++ (quantifier ++ following)) ≡ Ok k → length ds + length quantifier ≤ k.1
number_short [] quantifier following factor k some h f e = absurd (omega arith)
number_short (d ∷ ds) quantifier following factor k some h f e =
    let t = and_parts (is_ascii_digit d) (list_all is_ascii_digit ds) h in
    elim (branch d (ds ++ (quantifier ++ following)) k e) [
      | lines x m ↦
          absurd (digit_no_t d t.0
          (eqb-true (to_ascii_lowercase d) 116 (and_parts (to_ascii_lowercase d == 116) (begins_as (codes "ext:") (ds
          ++ (quantifier ++ following))) x).0))
      | name x s m ↦ absurd (both_ways (is_start d) (digit_no_start d t.0) s)
      | digits x s m ↦ (
          let p = number_parts (d ∷ (ds ++ (quantifier ++ following))) k m in
          let n = ap (λ (k : TokenKind × ℕ). k.1) p.1 in
          let l = digits_short (d ∷ ds) quantifier following factor h f in
          omega arith)
      | colon x m ↦ absurd (false≢true (rw x at t.0))
      | quote x m ↦ absurd (false≢true (rw x at t.0))
      | one s n c q m ↦ absurd (both_ways (is_ascii_digit d) n t.0)
    ]

-- a quoted string
pub quoted_whole : (body text : List ℕ) → QuotedText body text → (following : List ℕ) → quoted_len false (body ++ 34 ∷ following) ≡ length body
unfolding quoted_len
quoted_whole _ _ quoted_end following = refl
quoted_whole _ _ (quoted_plain b bs says n34 n92 q) following = rw (ne_eqb b 34 n34, ne_eqb b 92 n92) (ap suc (quoted_whole bs says q following))
quoted_whole _ _ (quoted_pair b bs says q) following = ap (λ n. suc (suc n)) (quoted_whole bs says q following)

quoted_short : (body text following : List ℕ) (k : TokenKind × ℕ) → QuotedText body text
    → kind_at (34 ∷ (body ++ 34 ∷ following)) ≡ Ok k → length body + 2 ≤ k.1
quoted_short body text following k h e = elim (branch 34 (body ++ 34 ∷ following) k e) [
  | lines t m ↦ absurd (false≢true t)
  | name t s m ↦ absurd (false≢true s)
  | digits t s m ↦ absurd (false≢true s)
  | colon t m ↦ absurd (omega arith)
  | quote t m ↦ (
      let p = quoted_parts (body ++ 34 ∷ following) k m in
      let n = ap (λ (k : TokenKind × ℕ). k.1) p.2 in
      let w = quoted_whole body text h following in
      omega arith)
  | one s d c q m ↦ absurd (true≢false q)
]

-- a multi-line string
pub after_line : (content rest : List ℕ) → drop (suc (length content)) (content ++ 10 ∷ rest) ≡ rest
after_line [] rest = refl
after_line (c ∷ content) rest = after_line content rest

pub lines_whole : (body text : List ℕ) → Lines body text → (more : List ℕ) → is_last_line (46 ∷ more) ≡ true
    → lines_len true (body ++ 46 ∷ more) ≡ length body
lines_whole _ _ no_lines more h = last_here (46 ∷ more) h
lines_whole _ _ (line content bs says all dot r) more h =
    let rest : List ℕ = bs ++ 46 ∷ more in
    let a : (content ++ 10 ∷ bs) ++ 46 ∷ more ≡ content ++ 10 ∷ rest = append_assoc content (10 ∷ bs) (46 ∷ more) in
    let n : prefix_len not_lf (content ++ 10 ∷ rest) ≡ length content = exactly not_lf content (10 ∷ rest) all refl in
    let l = length-append content (10 ∷ rest) in
    let s = no_last (content ++ 10 ∷ rest) (dot_line content rest all ∙ dot) in
    let t = line_rest (content ++ 10 ∷ rest) (omega arith) in
    let d : drop (suc (prefix_len not_lf (content ++ 10 ∷ rest))) (content ++ 10 ∷ rest) ≡ rest =
    ap (λ m. drop (suc m) (content ++ 10 ∷ rest)) n ∙ after_line content rest in
    let u = ap (λ cs. lines_len true cs) d in
    let r1 = lines_whole bs says r more h in
    let l1 = length-append content (10 ∷ bs) in
    rw a (omega arith)

line_feed_opens : (rest : List ℕ) → opening_end_at (10 ∷ rest) ≡ Ok 1
line_feed_opens rest = rw (suc_eqb (length rest)) refl

return_opens : (rest : List ℕ) → opening_end_at (13 ∷ 10 ∷ rest) ≡ Ok 2
return_opens rest = rw (suc_eqb (suc (length rest))) refl

hash_opens : (bs : List ℕ) (n : ℕ) → begins_with 35 bs ≡ true → prefix_len not_lf bs ≡ n → n < length bs → opening_end_at bs ≡ Ok (suc n)
hash_opens bs n h e l = rw (ne_eqb (length bs) 0 (λ z. omega arith), h, e, lt-ltb n (length bs) l) refl

pub hash_first : (comment rest : List ℕ) → begins_with 35 comment ≡ true → (begins_with 35 (comment ++ rest) ≡ true)
    × (begins is_blank (comment ++ rest) ≡ false)
hash_first [] rest h = absurd (false≢true h)
hash_first (b ∷ comment) rest h = (h, rw (eqb-true b 35 h) refl)

pub opening_whole : (comment end rest : List ℕ)
    → (comment ≡ []) ⊎ ((begins_with 35 comment ≡ true) × (list_all not_lf comment ≡ true)) → IsLineEnd end
    → (opening_end_at (comment ++ (end ++ rest)) ≡ Ok (length comment + length end))
    × (begins is_blank (comment ++ (end ++ rest)) ≡ false)
opening_whole comment end rest (inl c) (inl e) = rw (c, e) (line_feed_opens rest, refl)
opening_whole comment end rest (inl c) (inr e) = rw (c, e) (return_opens rest, refl)
opening_whole comment end rest (inr c) (inl e) =
    let f = hash_first comment (10 ∷ rest) c.0 in
    let n = exactly not_lf comment (10 ∷ rest) c.1 refl in
    let l = length-append comment (10 ∷ rest) in
    let one : length comment + 1 ≡ suc (length comment) = omega arith in
    rw (e, one) (hash_opens (comment ++ 10 ∷ rest) (length comment) f.0 n (omega arith), f.1)
opening_whole comment end rest (inr c) (inr e) =
    let f = hash_first comment (13 ∷ 10 ∷ rest) c.0 in
    let all : list_all not_lf (comment ++ 13 ∷ []) ≡ true = list_all-append not_lf comment (13 ∷ [])
    ∙ and_from (list_all not_lf comment) true c.1 refl in
    let n : prefix_len not_lf (comment ++ 13 ∷ 10 ∷ rest) ≡ length (comment ++ 13 ∷ []) =
    ap (λ cs. prefix_len not_lf cs) (sym (append_assoc comment (13 ∷ []) (10 ∷ rest)))
    ∙ exactly not_lf (comment ++ 13 ∷ []) (10 ∷ rest) all refl in
    let l = length-append comment (13 ∷ 10 ∷ rest) in
    let m = length-append comment (13 ∷ []) in
    let two : length comment + 2 ≡ suc (length (comment ++ 13 ∷ [])) = omega arith in
    rw (e, two) (hash_opens (comment ++ 13 ∷ 10 ∷ rest) (length (comment ++ 13 ∷ [])) f.0 n (omega arith), f.1)

pub last_whole : (last following : List ℕ) → IsLineEnd last ⊎ ((last ≡ []) × (following ≡ []))
    → (is_last_line (46 ∷ (last ++ following)) ≡ true) × (length last ≤ line_end_len (last ++ following))
last_whole last following (inl (inl e)) = rw (e, suc_eqb (length following)) (refl, omega arith)
last_whole last following (inl (inr e)) = rw (e, suc_eqb (suc (length following))) (refl, omega arith)
last_whole last following (inr e) = rw (e.0, e.1) (refl, omega arith)

pub after_opening : (comment end rest : List ℕ) → drop (length comment + length end) (comment ++ (end ++ rest)) ≡ rest
after_opening comment end rest = drop-append-add comment (end ++ rest) (length end) ∙ drop-append_seam end rest

-- after "text:"
multi_line_whole : (blanks comment end body text last following : List ℕ) (k : TokenKind × ℕ)
    → list_all is_blank blanks ≡ true
    → (comment ≡ []) ⊎ ((begins_with 35 comment ≡ true) × (list_all not_lf comment ≡ true)) → IsLineEnd end
    → Lines body text → IsLineEnd last ⊎ ((last ≡ []) × (following ≡ []))
    → multi_line_at (blanks ++ (comment ++ (end ++ (body ++ 46 ∷ (last ++ following))))) ≡ Ok k
    → 5 + (length blanks + (length comment + (length end + (length body + suc (length last))))) ≤ k.1
multi_line_whole blanks comment end body text last following k b c en ls la e =
    let more : List ℕ = last ++ following in
    let rest : List ℕ = body ++ 46 ∷ more in
    let from : List ℕ = comment ++ (end ++ rest) in
    let all : List ℕ = blanks ++ from in
    let o = opening_whole comment end rest c en in
    let nb : prefix_len is_blank all ≡ length blanks = exactly is_blank blanks from b o.1 in
    let p = multi_line_parts all k e in
    let from_is : drop (prefix_len is_blank all) all ≡ from = ap (λ m. drop m all) nb ∙ drop-append_seam blanks from in
    let opened : opening_end_at from ≡ Ok p.0 = sym (ap opening_end_at from_is) ∙ p.1 in
    let n : length comment + length end ≡ p.0 = same_kind (length comment + length end) p.0 (sym o.0 ∙ opened) in
    let rest_is : drop (prefix_len is_blank all + p.0) all ≡ rest = drop_more (prefix_len is_blank all) p.0 all
    ∙ ap (λ cs. drop p.0 cs) from_is ∙ ap (λ m. drop m from) (sym n) ∙ after_opening comment end rest in
    let read : lines_at (5 + (prefix_len is_blank all + p.0)) rest ≡ Ok k =
    sym (ap (λ cs. lines_at (5 + (prefix_len is_blank all + p.0)) cs) rest_is) ∙ p.2 in
    let q = lines_parts (5 + (prefix_len is_blank all + p.0)) rest k read in
    let l = last_whole last following la in
    let w = lines_whole body text ls more l.0 in
    let more_is : drop (lines_len true rest + 1) rest ≡ more = ap (λ m. drop (m + 1) rest) w ∙ drop-append-add body (46 ∷ more) 1 in
    let end_is = ap line_end_len more_is in
    let at = ap (λ (k : TokenKind × ℕ). k.1) q.2 in
    let within = l.1 in
    omega arith

first : (a b : ℕ) (bs cs : List ℕ) → a ∷ bs ≡ b ∷ cs → a ≡ b
first a b bs cs e = cc

others : (a b : ℕ) (bs cs : List ℕ) → a ∷ bs ≡ b ∷ cs → bs ≡ cs
others a b bs cs e = cc

pub begins_word : (xs word rest : List ℕ) → map to_ascii_lowercase word ≡ xs → begins_as xs (word ++ rest) ≡ true
begins_word [] word rest e = refl
begins_word (x ∷ xs) [] rest e = cc
begins_word (x ∷ xs) (b ∷ word) rest e =
    let h : to_ascii_lowercase b ≡ x = first (to_ascii_lowercase b) x (map to_ascii_lowercase word) xs e in
    and_from (to_ascii_lowercase b == x) (begins_as xs (word ++ rest)) (eq-eqb (to_ascii_lowercase b) x h)
    (begins_word xs word rest (others (to_ascii_lowercase b) x (map to_ascii_lowercase word) xs e))

word_short : (word from : List ℕ) (k : TokenKind × ℕ) (n : ℕ) → map to_ascii_lowercase word ≡ codes "text:"
    → ((k : TokenKind × ℕ) → multi_line_at from ≡ Ok k → 5 + n ≤ k.1) → kind_at (word ++ from) ≡ Ok k
    → length word + n ≤ k.1
word_short [] from k n w more e = absurd (nothing w)
  where
    nothing : [] ≡ codes "text:" → ⊥
    nothing e = cc
word_short (a ∷ word) from k n w more e =
    let t = begins_word (codes "text:") (a ∷ word) from w in
    let first = eqb-true (to_ascii_lowercase a) 116 (and_parts (to_ascii_lowercase a == 116) (begins_as (codes "ext:") (word ++ from)) t).0 in
    let s = t_starts a first in
    let five : length (a ∷ word) ≡ 5 = sym (length-map (a ∷ word) to_ascii_lowercase) ∙ ap length w in
    elim (branch a (word ++ from) k e) [
      | lines x m ↦ (
          let d : drop 5 (a ∷ (word ++ from)) ≡ from = ap (λ m. drop m (a ∷ (word ++ from))) (sym five) ∙ drop-append_seam (a ∷ word) from in
          let r = more k (sym (ap multi_line_at d) ∙ m) in
          omega arith)
      | name x y m ↦ absurd (both_ways (begins_text (a ∷ (word ++ from))) x t)
      | digits x y m ↦ absurd (both_ways (is_start a) x s)
      | colon x m ↦ absurd (false≢true (rw x at s))
      | quote x m ↦ absurd (false≢true (rw x at s))
      | one x y c q m ↦ absurd (both_ways (is_start a) x s)
    ]

-- the parts of a multi-line string
pub apart : (word blanks comment end body last following : List ℕ)
    → (word ++ (blanks ++ (comment ++ (end ++ (body ++ 46 ∷ last))))) ++ following ≡ word
    ++ (blanks ++ (comment ++ (end ++ (body ++ 46 ∷ (last ++ following)))))
apart word blanks comment end body last following = simp append_assoc

pub summed : (word blanks comment end body last : List ℕ)
    → length (word ++ (blanks ++ (comment ++ (end ++ (body ++ 46 ∷ last)))))
    ≡ length word + (length blanks + (length comment + (length end + (length body + suc (length last)))))
summed word blanks comment end body last = simp length-append

multi_line_short : (octets value following : List ℕ) (k : TokenKind × ℕ) → IsMultiLine value octets following
    → kind_at (octets ++ following) ≡ Ok k → length octets ≤ k.1
multi_line_short octets value following k h e =
    let n : ℕ = length h.blanks + (length h.comment + (length h.end + (length h.body + suc (length h.last)))) in
    let whole : octets ++ following ≡ h.word
    ++ (h.blanks ++ (h.comment ++ (h.end ++ (h.body ++ 46 ∷ (h.last ++ following))))) =
    ap (λ cs. cs ++ following) h.cut ∙ apart h.word h.blanks h.comment h.end h.body h.last following in
    let s = word_short h.word (h.blanks
    ++ (h.comment ++ (h.end ++ (h.body ++ 46 ∷ (h.last ++ following))))) k n h.word_is
    (λ (k : TokenKind × ℕ) (m : multi_line_at (h.blanks
    ++ (h.comment ++ (h.end ++ (h.body ++ 46 ∷ (h.last ++ following))))) ≡ Ok k).
    multi_line_whole h.blanks h.comment h.end h.body h.text h.last following k h.blanks_are h.comment_is h.end_is
    h.body_is h.last_is m) (sym (ap kind_at whole) ∙ e) in
    let l : length octets ≡ length h.word + n = ap length h.cut ∙ summed h.word h.blanks h.comment h.end h.body h.last in
    omega arith

-- any token
pub lexeme_short : (kind : TokenKind) (octets following : List ℕ) (k : TokenKind × ℕ) → Lexeme kind octets following
    → kind_at (octets ++ following) ≡ Ok k → length octets ≤ k.1
lexeme_short (kinds.Identifier xs) octets following k h e = rw h.0 (name_short xs following k h.1 (rw h.0 at e))
lexeme_short (kinds.Tag xs) octets following k h e = rw h.0 (tag_short xs following k h.1 (rw h.0 at e))
lexeme_short (kinds.Number n) octets following k h e =
    let l = length-append h.digits h.quantifier in
    let s = number_short h.digits h.quantifier following h.factor k h.some h.all
    (quantifier_counts h.quantifier h.factor h.counts) (rw (h.cut, append_assoc) at e) in
    rw h.cut (omega arith)
lexeme_short (kinds.StringValue value) octets following k (inl h) e =
    let l = length-append h.body (34 ∷ []) in
    let s = quoted_short h.body h.text following k h.spells (rw (h.cut, append_assoc) at e) in
    rw h.cut (omega arith)
lexeme_short (kinds.StringValue value) octets following k (inr h) e = multi_line_short octets value following k h e
lexeme_short (kinds.Mark mark) octets following k h e = let w = kind_within (octets ++ following) k e in rw h (omega arith)

-- what is read as an identifier is no "text" before ":"
word_begins : (ws xs following : List ℕ) → map to_ascii_lowercase xs ≡ ws → begins_with 58 following ≡ true
    → begins_as (ws ++ 58 ∷ []) (xs ++ following) ≡ true
word_begins [] [] [] e h = absurd (false≢true h)
word_begins [] [] (b ∷ bs) e h = let is : b ≡ 58 = eqb-true b 58 h in rw is refl
word_begins [] (x ∷ xs) following e h = cc
word_begins (w ∷ ws) [] following e h = cc
word_begins (w ∷ ws) (x ∷ xs) following e h =
    and_from (to_ascii_lowercase x == w) (begins_as (ws ++ 58 ∷ []) (xs
    ++ following)) (eq-eqb (to_ascii_lowercase x) w (first (to_ascii_lowercase x) w (map to_ascii_lowercase xs) ws
    e)) (word_begins ws xs following (others (to_ascii_lowercase x) w (map to_ascii_lowercase xs) ws e) h)

name_apart : (xs following : List ℕ) (n : ℕ) → IsName xs → kind_at (xs ++ following) ≡ Ok (kinds.Identifier xs, n)
    → map to_ascii_lowercase xs ≡ codes "text" → begins_with 58 following ≡ false
name_apart [] following n h e t = absurd (false≢true h.0)
name_apart (b ∷ bs) following n h e t = elim (cases_Bool (begins_with 58 following)) [
  | inr none ↦ none
  | inl is ↦ (
      let word = word_begins (codes "text") (b ∷ bs) following t is in
      elim (branch b (bs ++ following) (kinds.Identifier (b ∷ bs), n) e) [
        | lines x m ↦ (let p = multi_line_parts (drop 5 (b ∷ (bs ++ following))) (kinds.Identifier (b ∷ bs), n) m in
            let q = lines_parts _ _ _ p.2 in
            absurd (no_string (lines_value (take (lines_len true _) _)) (b ∷ bs) (ap (λ (k : TokenKind × ℕ). k.0) q.2)))
        | name x s m ↦ absurd (both_ways (begins_text (b ∷ (bs ++ following))) x word)
        | digits x s m ↦ absurd (both_ways (is_start b) x h.0)
        | colon x m ↦ absurd (false≢true (rw x at h.0))
        | quote x m ↦ absurd (false≢true (rw x at h.0))
        | one s d c q m ↦ absurd (both_ways (is_start b) s h.0)
      ])
]
  where
    no_string : (value xs : List ℕ) → kinds.StringValue value ≡ kinds.Identifier xs → ⊥
    no_string value xs e = cc

pub kind_apart : (kind : TokenKind) (octets following : List ℕ) → Lexeme kind octets following → (n : ℕ)
    → kind_at (octets ++ following) ≡ Ok (kind, n) → IsApart kind following
kind_apart (kinds.Identifier xs) octets following h n e = name_apart xs following n h.1 (rw h.0 at e)
kind_apart kind octets following h n e = tt
