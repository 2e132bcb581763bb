-- A token by the grammar, the longest that fits, is what is read in its place.
use Rattle.std.proofs.Common.{◌≡◌, ℕ, suc, ◌+◌, ◌*◌, ◌<◌, ◌≤◌, ◌⊎◌, Bool, true, false, List, [], ◌∷◌, ◌++◌, length, map, take, drop, nat_lt, Result}
use Rattle.std.proofs.Common.{Ok, Err, refl, sym, ap, subst, ◌∙◌, arith, inl, inr, length-append, append_assoc}
use Rattle.std.specs.Prelude.{if◌then◌else◌, ◌==◌, ◌||◌, codes}
use Rattle.std.specs.List.{prefix_len, list_all}
use Rattle.std.specs.Char.{is_ascii_digit, to_ascii_lowercase}
use Rattle.std.specs.Str.Parse.{digits_value}
use Rattle.std.proofs.lemmas.Bool.{false≢true, both_ways, cases_Bool, cases_lt, eqb-true, eq-eqb, ne_eqb, lt-ltb}
use Rattle.std.proofs.lemmas.Bool.{le-ltb, and_parts, and_from, or_left}
use Rattle.std.proofs.lemmas.List.{append-nil, length-map, take-append-drop, length-take-le}
use Rattle.std.proofs.lemmas.List.Folds.{list_all-append}
use Rattle.std.proofs.Math.Seq.{take-append_seam, drop-append_seam, drop-append-add}
use Rattle.sieve_syntax.specs.declared.token.Mark.{Mark}
use Rattle.sieve_syntax.specs.declared.token.Mark.TheVariants.{Semicolon}
use Rattle.sieve_syntax.specs.declared.token.TokenKind.{TokenKind}
use Rattle.sieve_syntax.specs.declared.token.TokenKind.TheVariants as kinds
use Rattle.sieve_text.specs.declared.fault.ScanRefusal.{ScanRefusal}
use Rattle.sieve_text.specs.declared.fault.ScanRefusal.TheVariants.{StringNotClosed, NumberTooLarge}
use Rattle.sieve_text.specs.Octets.{is_blank, is_start, is_word, begins, begins_with, line_end_len}
use Rattle.sieve_text.specs.Strings.{with_crlf, without_escapes, quoted_value, begins_as, begins_text, opening_end_at}
use Rattle.sieve_text.specs.Strings.{lines_len, without_stuffing, lines_value}
use Rattle.sieve_text.specs.Tokens.{string_kind, quoted_at, lines_at, multi_line_at, tag_at, factor_at, number_at, identifier_at, kind_at, ◌>>=◌}
use Rattle.sieve_text.specs.TokenGrammar.{IsName, Quantifier, no_quantifier, kilo, mega, giga, IsNumber, QuotedText}
use Rattle.sieve_text.specs.TokenGrammar.{quoted_end, quoted_plain, quoted_pair, IsLineEnd, without_dot, Lines}
use Rattle.sieve_text.specs.TokenGrammar.{no_lines, line, IsTextColon, IsMultiLine, octet_of, Lexeme, IsToken}
use Rattle.sieve_text.proofs.GapFound.{exactly}
use Rattle.sieve_text.proofs.GapLemmas.{drop_more}
use Rattle.sieve_text.proofs.GrammarParts.{quantifier_taken, quantifier_counts}
use Rattle.sieve_text.proofs.KindGrammar.{line_says}
use Rattle.sieve_text.proofs.WithinLemmas.{factor_within}
use Rattle.sieve_text.proofs.Longest.{lower_below, lower_above, lower_between, colon_only, t_starts, digit_no_t, digit_no_start, no_word}
use Rattle.sieve_text.proofs.Longest.{quoted_whole, lines_whole, opening_whole, last_whole, after_opening, begins_word, apart, summed}

-- NAMES

e_starts : (b : ℕ) → to_ascii_lowercase b ≡ 101 → is_start b ≡ true
e_starts b e = elim (cases_lt b 65) [
  | inl h ↦ (let l = lower_below b h in absurd (omega arith))
  | inr h ↦ elim (cases_lt b 91) [
    | inl k ↦ (let l = lower_between b h k in let is : b ≡ 69 = omega arith in rw is refl)
    | inr k ↦ (let is : b ≡ 101 = sym (lower_above b k) ∙ e in rw is refl)
  ]
]

x_starts : (b : ℕ) → to_ascii_lowercase b ≡ 120 → is_start b ≡ true
x_starts b e = elim (cases_lt b 65) [
  | inl h ↦ (let l = lower_below b h in absurd (omega arith))
  | inr h ↦ elim (cases_lt b 91) [
    | inl k ↦ (let l = lower_between b h k in let is : b ≡ 88 = omega arith in rw is refl)
    | inr k ↦ (let is : b ≡ 120 = sym (lower_above b k) ∙ e in rw is refl)
  ]
]

word_start : (b : ℕ) → is_start b ≡ true → is_word b ≡ true
word_start b h = or_left (is_start b) (is_ascii_digit b) h

-- letters in lower case that are octets of names
Letters : List ℕ → Type 0
Letters [] = Unit {0}
Letters (w ∷ ws) = ((b : ℕ) → to_ascii_lowercase b ≡ w → is_word b ≡ true) × Letters ws

-- where letters and ":" begin a text whose longest name ends before the rest, that name is the letters
letters_split : (ws : List ℕ) → Letters ws → (xs following : List ℕ) → list_all is_word xs ≡ true
    → begins is_word following ≡ false → begins_as (ws ++ 58 ∷ []) (xs ++ following) ≡ true
    → (map to_ascii_lowercase xs ≡ ws) × (begins_with 58 following ≡ true)
unfolding Letters
letters_split [] l [] [] h stops t = absurd (false≢true t)
letters_split [] l [] (b ∷ bs) h stops t =
    let p = and_parts (to_ascii_lowercase b == 58) true t in
    (refl, eq-eqb b 58 (colon_only b (eqb-true (to_ascii_lowercase b) 58 p.0)))
letters_split [] l (x ∷ xs) following h stops t =
    let p = and_parts (to_ascii_lowercase x == 58) true t in
    let q = and_parts (is_word x) (list_all is_word xs) h in
    absurd (no_word x (eqb-true (to_ascii_lowercase x) 58 p.0) q.0)
letters_split (w ∷ ws) l [] [] h stops t = absurd (false≢true t)
letters_split (w ∷ ws) l [] (b ∷ bs) h stops t =
    let p = and_parts (to_ascii_lowercase b == w) (begins_as (ws ++ 58 ∷ []) bs) t in
    absurd (both_ways (is_word b) stops (l.0 b (eqb-true (to_ascii_lowercase b) w p.0)))
letters_split (w ∷ ws) l (x ∷ xs) following h stops t =
    let p = and_parts (to_ascii_lowercase x == w) (begins_as (ws ++ 58 ∷ []) (xs ++ following)) t in
    let q = and_parts (is_word x) (list_all is_word xs) h in
    let r = letters_split ws l.1 xs following q.1 stops p.1 in
    (both (to_ascii_lowercase x) w (map to_ascii_lowercase xs) ws (eqb-true (to_ascii_lowercase x) w p.0) r.0, r.1)
  where
    both : (a b : ℕ) (cs ds : List ℕ) → a ≡ b → cs ≡ ds → a ∷ cs ≡ b ∷ ds
    both a b cs ds e f = rw (e, f) refl

text_letters : Letters (codes "text")
unfolding Letters
text_letters = (
  λ b e. word_start b (t_starts b e),
  (
    λ b e. word_start b (e_starts b e),
    (λ b e. word_start b (x_starts b e), (λ b e. word_start b (t_starts b e), tt)),
  ),
)

pub text_split : (xs following : List ℕ) → list_all is_word xs ≡ true → begins is_word following ≡ false
    → begins_text (xs ++ following) ≡ true → (map to_ascii_lowercase xs ≡ codes "text")
    × (begins_with 58 following ≡ true)
text_split xs following h stops t = letters_split (codes "text") text_letters xs following h stops t

name_kind : (b : ℕ) (bs : List ℕ) → begins_text (b ∷ bs) ≡ false → is_start b ≡ true → kind_at (b ∷ bs) ≡ identifier_at (b ∷ bs)
unfolding kind_at
name_kind b bs t s = rw (t, s) refl

name_read : (xs following : List ℕ) → prefix_len is_word (xs ++ following) ≡ length xs
    → identifier_at (xs ++ following) ≡ Ok (kinds.Identifier xs, length xs)
name_read xs following e =
    ap (λ n. Ok (kinds.Identifier (take n (xs ++ following)), n)) e
    ∙ ap (λ (ys : List ℕ). Ok (kinds.Identifier ys, length xs)) (take-append_seam xs following)

name_found : (xs following : List ℕ) → IsName xs → begins is_word following ≡ false
    → (map to_ascii_lowercase xs ≡ codes "text" → begins_with 58 following ≡ false)
    → kind_at (xs ++ following) ≡ Ok (kinds.Identifier xs, length xs)
name_found [] following h stops apart = absurd (false≢true h.0)
name_found (b ∷ bs) following h stops apart = name_kind b (bs ++ following) plain h.0
    ∙ name_read (b ∷ bs) following (exactly is_word (b ∷ bs) following h.1 stops)
  where
    plain : begins_text (b ∷ (bs ++ following)) ≡ false
    plain = elim (cases_Bool (begins_text (b ∷ (bs ++ following)))) [
      | inl e ↦ (let s = text_split (b ∷ bs) following h.1 stops e in absurd (both_ways (begins_with 58 following) (apart s.0) s.1))
      | inr e ↦ e
    ]

-- the longest name ends where no octet of a name follows
name_stops : (xs following : List ℕ) → IsName xs → ((more rest : List ℕ) → xs ++ following ≡ more ++ rest → IsName more
    → length more ≤ length xs) → begins is_word following ≡ false
name_stops xs [] h longest = refl
name_stops xs (b ∷ bs) h longest = elim (cases_Bool (is_word b)) [
  | inr e ↦ e
  | inl e ↦ (
      let l = longest (xs ++ b ∷ []) bs (sym (append_assoc xs (b ∷ []) bs)) (
        longer xs h,
        list_all-append is_word xs (b ∷ [])
            ∙ and_from (list_all is_word xs) (list_all is_word (b ∷ [])) h.1 (and_from (is_word b) true e refl),
      ) in
      let m = length-append xs (b ∷ []) in
      absurd (omega arith))
]
  where
    longer : (xs : List ℕ) → IsName xs → begins is_start (xs ++ b ∷ []) ≡ true
    longer [] h = absurd (false≢true h.0)
    longer (x ∷ xs) h = h.0

-- TAGS

pub tag_kind : (bs : List ℕ) → kind_at (58 ∷ bs) ≡ tag_at bs
unfolding kind_at
tag_kind bs = refl

name_first : (xs following : List ℕ) → IsName xs → begins is_start (xs ++ following) ≡ true
name_first [] following h = absurd (false≢true h.0)
name_first (b ∷ bs) following h = h.0

tag_read : (xs following : List ℕ) → IsName xs → prefix_len is_word (xs ++ following) ≡ length xs
    → tag_at (xs ++ following) ≡ Ok (kinds.Tag xs, suc (length xs))
unfolding tag_at
tag_read xs following h e = rw (name_first xs following h) (ap (λ n. Ok (kinds.Tag (take n (xs ++ following)), suc n)) e
    ∙ ap (λ (ys : List ℕ). Ok (kinds.Tag ys, suc (length xs))) (take-append_seam xs following))

tag_found : (xs following : List ℕ) → IsName xs → begins is_word following ≡ false
    → kind_at (58 ∷ (xs ++ following)) ≡ Ok (kinds.Tag xs, suc (length xs))
tag_found xs following h stops = tag_kind (xs ++ following) ∙ tag_read xs following h (exactly is_word xs following h.1 stops)

-- NUMBERS

-- a number, or the refusal of one that is too large
abbrev pub number_kind : ℕ → ℕ → Result (TokenKind × ℕ) ScanRefusal
number_kind value n = if nat_lt 9223372036854775807 value then Err NumberTooLarge else Ok (kinds.Number value, n)

number_read : (ds rest : List ℕ) (factor long : ℕ) → prefix_len is_ascii_digit (ds ++ rest) ≡ length ds
    → factor_at rest ≡ (factor, long)
    → number_at (ds ++ rest) ≡ number_kind (digits_value 10 ds * factor) (length ds + long)
unfolding number_at
number_read ds rest factor long e f =
    ap (λ n. number_kind (digits_value 10 (take n (ds ++ rest)) * (factor_at (drop n (ds ++ rest))).0) (n + (factor_at (drop n (ds ++ rest))).1)) e
    ∙ ap (λ (ys : List ℕ).
    number_kind (digits_value 10 ys * (factor_at (drop (length ds) (ds ++ rest))).0)
    (length ds + (factor_at (drop (length ds) (ds ++ rest))).1)) (take-append_seam ds rest)
    ∙ ap (λ (ys : List ℕ). number_kind (digits_value 10 ds * (factor_at ys).0) (length ds + (factor_at ys).1)) (drop-append_seam ds rest)
    ∙ ap (λ (p : ℕ × ℕ). number_kind (digits_value 10 ds * p.0) (length ds + p.1)) f

factor_none : (bs : List ℕ) → (factor_at bs).1 ≡ 0 → factor_at bs ≡ (1, 0)
factor_none [] e = refl
factor_none (b ∷ bs) e = elim (cases_Bool ((b == 75) || (b == 107))) [
  | inl h ↦ absurd (one_no_zero (rw h at e))
  | inr h ↦ elim (cases_Bool ((b == 77) || (b == 109))) [
    | inl h1 ↦ absurd (one_no_zero (rw (h, h1) at e))
    | inr h1 ↦ elim (cases_Bool ((b == 71) || (b == 103))) [
      | inl h2 ↦ absurd (one_no_zero (rw (h, h1, h2) at e))
      | inr h2 ↦ rw (h, h1, h2) refl
    ]
  ]
]
  where
    one_no_zero : ◌≡◌ {A = ℕ} 1 0 → ⊥
    one_no_zero e = omega arith

-- a number has no more octets than these
abbrev pub IsLongest : List ℕ → List ℕ → Type 0
IsLongest octets following = (other : ℕ) (more rest : List ℕ) → octets ++ following ≡ more ++ rest → IsNumber other more → length more ≤ length octets

-- after digits without a quantifier comes neither a digit nor a quantifier, if they are the longest number
no_digit_after : (ds following : List ℕ) → 0 < length ds → list_all is_ascii_digit ds ≡ true → IsLongest ds following
    → begins is_ascii_digit following ≡ false
no_digit_after ds [] some all longest = refl
no_digit_after ds (b ∷ bs) some all longest = elim (cases_Bool (is_ascii_digit b)) [
  | inr e ↦ e
  | inl e ↦ (
      let m = length-append ds (b ∷ []) in
      let l = longest (digits_value 10 (ds ++ b ∷ []) * 1) (ds ++ b ∷ []) bs (sym (append_assoc ds (b ∷ []) bs)) (record {
        digits = ds ++ b ∷ [];
        quantifier = [];
        factor = 1;
        cut = sym (append-nil (ds ++ b ∷ []));
        some = omega arith;
        all = list_all-append is_ascii_digit ds (b ∷ [])
            ∙ and_from (list_all is_ascii_digit ds) (list_all is_ascii_digit (b ∷ [])) all
            (and_from (is_ascii_digit b) true e refl);
        counts = no_quantifier;
        says = refl;
      }) in
      absurd (omega arith))
]

no_factor_after : (ds following : List ℕ) → 0 < length ds → list_all is_ascii_digit ds ≡ true → IsLongest ds following → factor_at following ≡ (1, 0)
no_factor_after ds following some all longest =
    let f : ℕ = (factor_at following).1 in
    let q = quantifier_taken following in
    let l = longest (digits_value 10 ds * (factor_at following).0) (ds
    ++ take f following) (drop f following) (ap (λ (bs : List ℕ). ds ++ bs) (sym (take_drop f following))
    ∙ sym (append_assoc ds (take f following) (drop f following))) (record {
      digits = ds;
      quantifier = take f following;
      factor = (factor_at following).0;
      cut = refl;
      some = some;
      all = all;
      counts = q;
      says = refl;
    }) in
    let m = length-append ds (take f following) in
    let c = ap (λ (p : ℕ × ℕ). p.1) (quantifier_counts (take f following) (factor_at following).0 q) in
    let w = ap (λ (p : ℕ × ℕ). p.1) (quantifier_counts (take f following) (factor_at following).0 q) in
    factor_none following (let k = taken_long following in omega arith)
  where
    take_drop : (n : ℕ) (bs : List ℕ) → take n bs ++ drop n bs ≡ bs
    take_drop n bs = take-append-drop n bs

    taken_long : (bs : List ℕ) → length (take (factor_at bs).1 bs) ≡ (factor_at bs).1
    taken_long bs = length-take-le (factor_at bs).1 bs (factor_within bs)

quantifier_first : (quantifier following : List ℕ) (factor : ℕ) → Quantifier quantifier factor → 0 < length quantifier
    → (begins is_ascii_digit (quantifier ++ following) ≡ false)
    × (factor_at (quantifier ++ following) ≡ (factor, length quantifier))
quantifier_first _ following _ no_quantifier some = absurd (omega arith)
quantifier_first _ following _ (kilo b (inl e)) some = rw e (refl, refl)
quantifier_first _ following _ (kilo b (inr e)) some = rw e (refl, refl)
quantifier_first _ following _ (mega b (inl e)) some = rw e (refl, refl)
quantifier_first _ following _ (mega b (inr e)) some = rw e (refl, refl)
quantifier_first _ following _ (giga b (inl e)) some = rw e (refl, refl)
quantifier_first _ following _ (giga b (inr e)) some = rw e (refl, refl)

number_parts_read : (ds quantifier following : List ℕ) (factor : ℕ) → 0 < length ds → list_all is_ascii_digit ds ≡ true
    → Quantifier quantifier factor → IsLongest (ds ++ quantifier) following
    → number_at (ds ++ (quantifier ++ following))
    ≡ number_kind (digits_value 10 ds * factor) (length ds + length quantifier)
number_parts_read ds [] following factor some all counts longest =
    let same = append-nil ds in
    let l : IsLongest ds following = subst (λ (xs : List ℕ). IsLongest xs following) same longest in
    let one : factor ≡ 1 = ap (λ (p : ℕ × ℕ). p.0) (sym (quantifier_counts [] factor counts)) in
    rw one (number_read ds following 1 0
    (exactly is_ascii_digit ds following all (no_digit_after ds following some all l))
    (no_factor_after ds following some all l))
number_parts_read ds (q ∷ more) following factor some all counts longest =
    let f = quantifier_first (q ∷ more) following factor counts (omega arith) in
    number_read ds (q ∷ (more ++ following)) factor (suc (length more)) (exactly is_ascii_digit ds (q ∷ (more ++ following)) all f.0) f.1

number_branch : (d : ℕ) (bs : List ℕ) → is_ascii_digit d ≡ true → kind_at (d ∷ bs) ≡ number_at (d ∷ bs)
unfolding kind_at
number_branch d bs h = rw (plain, digit_no_start d h, h) refl
  where
    plain : begins_text (d ∷ bs) ≡ false
    plain = elim (cases_Bool (begins_text (d ∷ bs))) [
      | inl e ↦ absurd
          (digit_no_t d h (eqb-true (to_ascii_lowercase d) 116
          (and_parts (to_ascii_lowercase d == 116) (begins_as (codes "ext:") bs) e).0))
      | inr e ↦ e
    ]

pub number_found : (octets following : List ℕ) (value : ℕ) → IsNumber value octets → IsLongest octets following
    → kind_at (octets ++ following) ≡ number_kind value (length octets)
number_found octets following value h longest =
    let l : IsLongest (h.digits ++ h.quantifier) following = subst (λ (xs : List ℕ). IsLongest xs following) h.cut longest in
    let n = length-append h.digits h.quantifier in
    let whole : octets ++ following ≡ h.digits ++ (h.quantifier ++ following) =
    ap (λ (xs : List ℕ). xs ++ following) h.cut ∙ append_assoc h.digits h.quantifier following in
    ap kind_at whole ∙ first h.digits (h.quantifier ++ following) h.some h.all
    ∙ number_parts_read h.digits h.quantifier following h.factor h.some h.all h.counts l
    ∙ ap (λ v. number_kind v (length h.digits + length h.quantifier)) (sym h.says)
    ∙ ap (λ m. number_kind value m) (sym n ∙ ap length (sym h.cut))
  where
    first : (ds rest : List ℕ) → 0 < length ds → list_all is_ascii_digit ds ≡ true → kind_at (ds ++ rest) ≡ number_at (ds ++ rest)
    first [] rest some all = absurd (omega arith)
    first (d ∷ ds) rest some all = number_branch d (ds ++ rest) (and_parts (is_ascii_digit d) (list_all is_ascii_digit ds) all).0

-- QUOTED STRINGS

pub quote_kind : (bs : List ℕ) → kind_at (34 ∷ bs) ≡ quoted_at bs
unfolding kind_at
quote_kind bs = refl

quoted_says : (body text : List ℕ) → QuotedText body text → without_escapes false body ≡ text
unfolding without_escapes
quoted_says _ _ quoted_end = refl
quoted_says _ _ (quoted_plain b bs says n34 n92 q) = rw (ne_eqb b 92 n92) (ap (λ (cs : List ℕ). b ∷ cs) (quoted_says bs says q))
quoted_says _ _ (quoted_pair b bs says q) = ap (λ (cs : List ℕ). b ∷ cs) (quoted_says bs says q)

quoted_read : (body text following : List ℕ) → QuotedText body text
    → quoted_at (body ++ 34 ∷ following) ≡ string_kind (with_crlf false text) (length body + 2)
unfolding quoted_at
quoted_read body text following q =
    let n = quoted_whole body text q following in
    let l = length-append body (34 ∷ following) in
    let lt = lt-ltb (length body) (length (body ++ 34 ∷ following)) (omega arith) in
    ap (λ m. if nat_lt m (length (body ++ 34 ∷ following)) then string_kind
    (quoted_value (take m (body ++ 34 ∷ following))) (m + 2) else Err StringNotClosed) n
    ∙ ap (λ (t : Bool).
    if t then string_kind (quoted_value (take (length body) (body ++ 34 ∷ following))) (length body + 2) else Err
    StringNotClosed) lt
    ∙ ap (λ (cs : List ℕ). string_kind (quoted_value cs) (length body + 2)) (take-append_seam body (34 ∷ following))
    ∙ ap (λ (cs : List ℕ). string_kind (with_crlf false cs) (length body + 2)) (quoted_says body text q)

pub quoted_found : (body text following : List ℕ) → QuotedText body text
    → kind_at ((34 ∷ (body ++ 34 ∷ [])) ++ following)
    ≡ string_kind (with_crlf false text) (length (34 ∷ (body ++ 34 ∷ [])))
quoted_found body text following q =
    let l = length-append body (34 ∷ []) in
    ap (λ (cs : List ℕ). kind_at (34 ∷ cs)) (append_assoc body (34 ∷ []) following)
    ∙ quote_kind (body ++ 34 ∷ following) ∙ quoted_read body text following q
    ∙ ap (λ m. string_kind (with_crlf false text) m) (long body)
  where
    long : (body : List ℕ) → length body + 2 ≡ length (34 ∷ (body ++ 34 ∷ []))
    long body = let l = length-append body (34 ∷ []) in omega arith

-- MULTI-LINE STRINGS

text_branch : (b : ℕ) (bs : List ℕ) → begins_text (b ∷ bs) ≡ true → kind_at (b ∷ bs) ≡ multi_line_at (drop 5 (b ∷ bs))
unfolding kind_at
text_branch b bs t = rw t refl

pub text_kind : (word from : List ℕ) → IsTextColon word → (kind_at (word ++ from) ≡ multi_line_at from)
    × (begins_text (word ++ from) ≡ true) × (drop 5 (word ++ from) ≡ from)
text_kind word from w =
    let t = begins_word (codes "text:") word from w in
    let five : length word ≡ 5 = sym (length-map word to_ascii_lowercase) ∙ ap length w in
    let d : drop 5 (word ++ from) ≡ from = ap (λ m. drop m (word ++ from)) (sym five) ∙ drop-append_seam word from in
    (lines_kind word t d, t, d)
  where
    lines_kind : (word : List ℕ) → begins_text (word ++ from) ≡ true → drop 5 (word ++ from) ≡ from → kind_at (word ++ from) ≡ multi_line_at from
    lines_kind [] t d = some_kind from t d
      where
        some_kind : (bs : List ℕ) → begins_text bs ≡ true → drop 5 bs ≡ from → kind_at bs ≡ multi_line_at from
        some_kind [] t d = absurd (false≢true t)
        some_kind (b ∷ bs) t d = text_branch b bs t ∙ ap multi_line_at d
    lines_kind (b ∷ word) t d = text_branch b (word ++ from) t ∙ ap multi_line_at d

bound : {A B : Type 0} (x : Result A ScanRefusal) (f : A → Result B ScanRefusal) (a : A) → x ≡ Ok a → (x >>= f) ≡ f a
bound x f a e = rw e refl

pub unbound : {A B : Type 0} (x : Result A ScanRefusal) (f : A → Result B ScanRefusal) (r : ScanRefusal) → x ≡ Err r → (x >>= f) ≡ Err r
unbound x f r e = rw e refl

pub blanks_read : (blanks from : List ℕ) → list_all is_blank blanks ≡ true → begins is_blank from ≡ false
    → (prefix_len is_blank (blanks ++ from) ≡ length blanks)
    × (drop (prefix_len is_blank (blanks ++ from)) (blanks ++ from) ≡ from)
blanks_read blanks from all stops =
    let n = exactly is_blank blanks from all stops in
    (n, ap (λ m. drop m (blanks ++ from)) n ∙ drop-append_seam blanks from)

pub opening_read : (blanks from : List ℕ) (n : ℕ) → list_all is_blank blanks ≡ true → begins is_blank from ≡ false
    → opening_end_at from ≡ Ok n → multi_line_at (blanks ++ from) ≡ lines_at (5 + (length blanks + n)) (drop n from)
unfolding multi_line_at
opening_read blanks from n all stops opens =
    let p = blanks_read blanks from all stops in
    let all_of : List ℕ = blanks ++ from in
    bound (opening_end_at (drop (prefix_len is_blank all_of) all_of)) (λ n.
    lines_at (5 + (prefix_len is_blank all_of + n)) (drop (prefix_len is_blank all_of + n) all_of)) n
    (ap opening_end_at p.1 ∙ opens)
    ∙ ap (λ (cs : List ℕ). lines_at (5 + (prefix_len is_blank all_of + n)) cs)
    (drop_more (prefix_len is_blank all_of) n all_of ∙ ap (λ (cs : List ℕ). drop n cs) p.1)
    ∙ ap (λ m. lines_at (5 + (m + n)) (drop n from)) p.0

lines_say : (body text : List ℕ) → Lines body text → without_stuffing true body ≡ text
unfolding without_stuffing
lines_say _ _ no_lines = refl
lines_say _ _ (line content bs says all dot r) = line_says content bs all ∙ ap (λ (cs : List ℕ). without_dot content ++ 10 ∷ cs) (lines_say bs says r)

last_long : (last following : List ℕ) → IsLineEnd last ⊎ ((last ≡ []) × (following ≡ [])) → line_end_len (last ++ following) ≡ length last
last_long last following (inl (inl e)) = rw e refl
last_long last following (inl (inr e)) = rw e refl
last_long last following (inr e) = rw (e.0, e.1) refl

lines_read : (before : ℕ) (body text last following : List ℕ) → Lines body text
    → IsLineEnd last ⊎ ((last ≡ []) × (following ≡ [])) → lines_at before (body ++ 46 ∷ (last ++ following))
    ≡ string_kind (with_crlf false text) (before + (length body + (1 + length last)))
unfolding lines_at
lines_read before body text last following ls la =
    let more : List ℕ = last ++ following in
    let rest : List ℕ = body ++ 46 ∷ more in
    let n : lines_len true rest ≡ length body = lines_whole body text ls more (last_whole last following la).0 in
    let l = length-append body (46 ∷ more) in
    let lt = lt-ltb (length body) (length rest) (omega arith) in
    let d : drop (length body + 1) rest ≡ more = drop-append-add body (46 ∷ more) 1 in
    ap (λ m. if nat_lt m (length rest) then string_kind (lines_value (take m rest))
    (before + (m + (1 + line_end_len (drop (m + 1) rest)))) else Err StringNotClosed) n
    ∙ ap (λ (t : Bool).
    if t then string_kind (lines_value (take (length body) rest))
    (before + (length body + (1 + line_end_len (drop (length body + 1) rest)))) else Err StringNotClosed) lt
    ∙ ap (λ (cs : List ℕ).
    string_kind (lines_value cs) (before + (length body + (1 + line_end_len (drop (length body + 1) rest)))))
    (take-append_seam body (46 ∷ more))
    ∙ ap (λ (cs : List ℕ).
    string_kind (with_crlf false cs) (before + (length body + (1 + line_end_len (drop (length body + 1) rest)))))
    (lines_say body text ls)
    ∙ ap (λ m. string_kind (with_crlf false text) (before + (length body + (1 + m)))) (ap line_end_len d ∙ last_long last following la)

pub multi_line_found : (octets value following : List ℕ) → IsMultiLine value octets following
    → kind_at (octets ++ following) ≡ string_kind value (length octets)
multi_line_found octets value following h =
    let rest : List ℕ = h.body ++ 46 ∷ (h.last ++ following) in
    let from : List ℕ = h.comment ++ (h.end ++ rest) in
    let o = opening_whole h.comment h.end rest h.comment_is h.end_is in
    let five : length h.word ≡ 5 = sym (length-map h.word to_ascii_lowercase) ∙ ap length h.word_is in
    ap kind_at (ap (λ (cs : List ℕ). cs ++ following) h.cut ∙ apart h.word h.blanks h.comment h.end h.body h.last following)
    ∙ (text_kind h.word (h.blanks ++ from) h.word_is).0
    ∙ opening_read h.blanks from (length h.comment + length h.end) h.blanks_are o.1 o.0
    ∙ ap (λ (cs : List ℕ). lines_at (5 + (length h.blanks + (length h.comment + length h.end))) cs) (after_opening h.comment h.end rest)
    ∙ lines_read (5 + (length h.blanks + (length h.comment + length h.end))) h.body h.text h.last following h.body_is h.last_is
    ∙ ap (λ (v : List ℕ).
    string_kind v (5 + (length h.blanks + (length h.comment + length h.end)) +
    (length h.body + (1 + length h.last)))) (sym h.says)
    ∙ ap (λ m. string_kind value m) (long h.word h.blanks h.comment h.end h.body h.last five ∙ ap length (sym h.cut))
  where
    long : (word blanks comment end body last : List ℕ) → length word ≡ 5
        → 5 + (length blanks + (length comment + length end)) + (length body + (1 + length last)) ≡ length (word
        ++ (blanks ++ (comment ++ (end ++ (body ++ 46 ∷ last)))))
    long word blanks comment end body last five = let l = summed word blanks comment end body last in omega arith

-- MARKS

mark_found : (m : Mark) (bs : List ℕ) → kind_at (octet_of m ∷ bs) ≡ Ok (kinds.Mark m, 1)
unfolding kind_at
mark_found Semicolon bs = refl
mark_found m bs = refl

-- ANY TOKEN

within : (value : List ℕ) (n : ℕ) → length value ≤ 65535 → string_kind value n ≡ Ok (kinds.StringValue value, n)
within value n h = rw (le-ltb 65535 (length value) h) refl

pub kind_found : (kind : TokenKind) (octets following : List ℕ) → IsToken kind octets following
    → kind_at (octets ++ following) ≡ Ok (kind, length octets)
kind_found (kinds.Identifier xs) octets following h =
    let e = h.spelled.0 in
    let stops = name_stops xs following h.spelled.1 (λ more rest same name.
    rw e at (h.longest (kinds.Identifier more) more rest (ap (λ (cs : List ℕ). cs ++ following) e
    ∙ same) (refl, name))) in
    rw e (name_found xs following h.spelled.1 stops h.apart)
kind_found (kinds.Tag xs) octets following h =
    let e = h.spelled.0 in
    let shorter : (more rest : List ℕ) → xs ++ following ≡ more ++ rest → IsName more → length more ≤ length xs = λ more rest same name. (
    let l = h.longest (kinds.Tag more) (58 ∷ more) rest (ap (λ (cs : List ℕ). cs ++ following) e ∙ ap (λ (cs : List ℕ). 58 ∷ cs) same) (refl, name) in
    let n = ap length e in
    omega arith) in
    rw e (tag_found xs following h.spelled.1 (name_stops xs following h.spelled.1 shorter))
kind_found (kinds.Number n) octets following h =
    number_found octets following n h.spelled (λ other more rest same number. h.longest (kinds.Number other) more rest same number)
    ∙ ap (λ (t : Bool). if t then Err NumberTooLarge else Ok (kinds.Number n, length octets)) (le-ltb 9223372036854775807 n h.limited)
kind_found (kinds.StringValue value) octets following h = string_found h.spelled
  where
    string_found : Lexeme (kinds.StringValue value) octets following → kind_at (octets ++ following) ≡ Ok (kinds.StringValue value, length octets)
    string_found (inl q) =
        rw q.cut (quoted_found q.body q.text following q.spells
        ∙ ap (λ (v : List ℕ). string_kind v (length (34 ∷ (q.body ++ 34 ∷ [])))) (sym q.says)
        ∙ within value (length (34 ∷ (q.body ++ 34 ∷ []))) h.limited)
    string_found (inr m) = multi_line_found octets value following m ∙ within value (length octets) h.limited
kind_found (kinds.Mark mark) octets following h = rw h.spelled (mark_found mark following)
