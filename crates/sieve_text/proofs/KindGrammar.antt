-- What is read is a token by the grammar.
use Rattle.std.proofs.Common.{◌≡◌, ℕ, zero, suc, ◌+◌, ◌*◌, ◌<◌, ◌≤◌, ◌⊎◌, Bool, true, false, List, [], ◌∷◌, ◌++◌, length, map, take, drop, nat_lt, Ok}
use Rattle.std.proofs.Common.{Err, refl, sym, ap, subst, ◌∙◌, arith, inl, inr, length-append, append_assoc}
use Rattle.std.specs.Prelude.{if◌then◌else◌, ◌==◌, ◌&&◌, ◌||◌, codes}
use Rattle.std.specs.List.{prefix_len, list_all}
use Rattle.std.specs.Char.{is_ascii_digit, to_ascii_lowercase}
use Rattle.std.specs.Str.Parse.{digits_value}
use Rattle.std.proofs.lemmas.Bool.{false≢true, not-true, cases_Bool, cases_lt, eqb-true, eqb-false, ne_eqb, ltb-true, and_parts, or_left, or_cases}
use Rattle.std.proofs.lemmas.List.{take-append-drop, length-drop, length-take-le}
use Rattle.std.proofs.lemmas.List.Sums.{prefix_len-le-length}
use Rattle.std.proofs.Math.Seq.{take-append-add}
use Rattle.sieve_syntax.specs.declared.token.TokenKind.{TokenKind}
use Rattle.sieve_syntax.specs.declared.token.TokenKind.TheVariants as kinds
use Rattle.sieve_text.specs.declared.fault.ScanRefusal.TheVariants.{NoToken, StringNotClosed}
use Rattle.sieve_text.specs.Octets.{is_blank, is_start, is_word, not_lf, begins, begins_with, line_end_len}
use Rattle.sieve_text.specs.Strings.{quoted_len, without_escapes, quoted_value, begins_as, begins_text, opening_end_at}
use Rattle.sieve_text.specs.Strings.{is_last_line, lines_len, without_stuffing, lines_value}
use Rattle.sieve_text.specs.Tokens.{mark_of, lines_at, multi_line_at, factor_at, kind_at}
use Rattle.sieve_text.specs.TokenGrammar.{IsName, QuotedText, quoted_end, quoted_plain, quoted_pair, IsLineEnd, is_dot, without_dot, Lines, no_lines}
use Rattle.sieve_text.specs.TokenGrammar.{line, IsTextColon, IsHashComment, IsQuoted, IsMultiLine, Lexeme, IsWithinLimits}
use Rattle.sieve_text.proofs.GapLemmas.{drop_more}
use Rattle.sieve_text.proofs.GrammarParts.{mark_octet, quantifier_taken}
use Rattle.sieve_text.proofs.GapGrammar.{prefix_passes}
use Rattle.sieve_text.proofs.KindLemmas.{tested, same_kind, no_kind, quoted_parts, lines_parts, multi_line_parts, tag_parts, number_parts, mark_parts}
use Rattle.sieve_text.proofs.KindLemmas.{branch, lines, name, digits, colon, quote, one}
use Rattle.sieve_text.proofs.WithinLemmas.{line_end_within, factor_within, one_more, nothing_here, text_within}

-- a token that begins here, and the rest after it
pub record IsSpelled (bs : List ℕ) (k : TokenKind × ℕ) : Type 0 where
  pub octets : List ℕ
  pub following : List ℕ
  pub cut : bs ≡ octets ++ following
  pub long : length octets ≡ k.1
  pub spelled : Lexeme k.0 octets following
  pub limited : IsWithinLimits k.0

spelled_as : (bs : List ℕ) (k l : TokenKind × ℕ) → k ≡ l → IsSpelled bs k → IsSpelled bs l
spelled_as bs k l e h = subst (IsSpelled bs) e h

-- identifiers and tags
name_begins : (bs : List ℕ) → begins is_start bs ≡ true → begins is_start (take (prefix_len is_word bs) bs) ≡ true
name_begins [] h = h
name_begins (b ∷ bs) h =
    let w = or_left (is_start b) (is_ascii_digit b) h in
    let e : 1 + prefix_len is_word bs ≡ suc (prefix_len is_word bs) = omega arith in
    rw (w, e) h

is_name : (bs : List ℕ) → begins is_start bs ≡ true → IsName (take (prefix_len is_word bs) bs)
is_name bs h = (name_begins bs h, prefix_passes is_word bs)

name_sound : (bs : List ℕ) → begins is_start bs ≡ true → IsSpelled bs (kinds.Identifier (take (prefix_len is_word bs) bs), prefix_len is_word bs)
name_sound bs h = record {
  octets = take (prefix_len is_word bs) bs;
  following = drop (prefix_len is_word bs) bs;
  cut = sym (take-append-drop (prefix_len is_word bs) bs);
  long = length-take-le (prefix_len is_word bs) bs (prefix_len-le-length is_word bs);
  spelled = (refl, is_name bs h);
  limited = tt;
}

tag_sound : (b : ℕ) (bs : List ℕ) → b ≡ 58 → begins is_start bs ≡ true
    → IsSpelled (b ∷ bs) (kinds.Tag (take (prefix_len is_word bs) bs), suc (prefix_len is_word bs))
tag_sound b bs e h = record {
  octets = b ∷ take (prefix_len is_word bs) bs;
  following = drop (prefix_len is_word bs) bs;
  cut = ap (λ cs. b ∷ cs) (sym (take-append-drop (prefix_len is_word bs) bs));
  long = ap suc (length-take-le (prefix_len is_word bs) bs (prefix_len-le-length is_word bs));
  spelled = (ap (λ c. c ∷ take (prefix_len is_word bs) bs) e, is_name bs h);
  limited = tt;
}

-- numbers
number_sound : (bs : List ℕ) → 0 < prefix_len is_ascii_digit bs
    → digits_value 10 (take (prefix_len is_ascii_digit bs) bs) * (factor_at (drop (prefix_len is_ascii_digit bs) bs)).0
    ≤ 9223372036854775807
    → IsSpelled bs (
      kinds.Number (digits_value 10 (take (prefix_len is_ascii_digit bs) bs) *
          (factor_at (drop (prefix_len is_ascii_digit bs) bs)).0),
      prefix_len is_ascii_digit bs + (factor_at (drop (prefix_len is_ascii_digit bs) bs)).1,
    )
number_sound bs some small =
    let n : ℕ = prefix_len is_ascii_digit bs in
    let rest : List ℕ = drop n bs in
    let f : ℕ = (factor_at rest).1 in
    let l = length-take-le n bs (prefix_len-le-length is_ascii_digit bs) in
    let m = length-take-le f rest (factor_within rest) in
    record {
      octets = take n bs ++ take f rest;
      following = drop f rest;
      cut = sym (append_assoc (take n bs) (take f rest) (drop f rest) ∙ ap (λ cs. take n bs ++ cs) (take-append-drop f rest) ∙ take-append-drop n bs);
      long = (let a = length-append (take n bs) (take f rest) in omega arith);
      spelled = record {
        digits = take n bs;
        quantifier = take f rest;
        factor = (factor_at rest).0;
        cut = refl;
        some = omega arith;
        all = prefix_passes is_ascii_digit bs;
        counts = quantifier_taken rest;
        says = refl;
      };
      limited = small;
    }

-- quoted strings
quoted_text : (bs : List ℕ) → quoted_len false bs < length bs
    → QuotedText (take (quoted_len false bs) bs) (without_escapes false (take (quoted_len false bs) bs))
    × (drop (quoted_len false bs) bs ≡ 34 ∷ drop (suc (quoted_len false bs)) bs)
unfolding quoted_len without_escapes
quoted_text [] h = absurd (omega arith)
quoted_text (b ∷ []) h = elim (cases_Bool (b == 34)) [
  | inl e ↦ rw e (quoted_end, ap (λ c. c ∷ []) (eqb-true b 34 e))
  | inr e ↦ (let r = rw e at h in absurd (escaped_none (b == 92) r))
]
  where
    escaped_none : (escaped : Bool) → suc (quoted_len escaped []) < 1 → ⊥
    escaped_none escaped r = omega arith
quoted_text (b ∷ c ∷ bs) h = elim (cases_Bool (b == 34)) [
  | inl e ↦ rw e (quoted_end, ap (λ d. d ∷ c ∷ bs) (eqb-true b 34 e))
  | inr e ↦ (let r = rw e at h in elim (cases_Bool (b == 92)) [
    | inl f ↦ (
        let s = rw f at r in
        let t = quoted_text bs (omega arith) in
        rw (e, f) (
          rw (eqb-true b 92 f)
              (quoted_pair c (take (quoted_len false bs) bs) (without_escapes false (take (quoted_len false bs) bs)) t.0),
          t.1,
        ))
    | inr f ↦ (
        let s = rw f at r in
        let t = quoted_text (c ∷ bs) (omega arith) in
        rw (e, f) (
          quoted_plain b (take (quoted_len false (c ∷ bs)) (c ∷ bs))
              (without_escapes false (take (quoted_len false (c ∷ bs)) (c ∷ bs))) (eqb-false b 34 e) (eqb-false b 92 f)
              t.0,
          t.1,
        ))
  ])
]

-- a string of any length that begins here, with its length as written
pub record IsString (bs value : List ℕ) (n : ℕ) : Type 0 where
  pub octets : List ℕ
  pub following : List ℕ
  pub cut : bs ≡ octets ++ following
  pub long : length octets ≡ n
  pub spelled : IsQuoted value octets ⊎ IsMultiLine value octets following

string_spelled : (bs value : List ℕ) (n : ℕ) → IsString bs value n → length value ≤ 65535 → IsSpelled bs (kinds.StringValue value, n)
string_spelled bs value n s small = record {
  octets = s.octets;
  following = s.following;
  cut = s.cut;
  long = s.long;
  spelled = s.spelled;
  limited = small;
}

pub quoted_cut : (b : ℕ) (bs : List ℕ) → b ≡ 34 → quoted_len false bs < length bs
    → IsString (b ∷ bs) (quoted_value (take (quoted_len false bs) bs)) (quoted_len false bs + 2)
quoted_cut b bs e h =
    let n : ℕ = quoted_len false bs in
    let t = quoted_text bs h in
    let whole : bs ≡ (take n bs ++ 34 ∷ []) ++ drop (suc n) bs = sym (take-append-drop n bs)
    ∙ ap (λ cs. take n bs ++ cs) t.1 ∙ sym (append_assoc (take n bs) (34 ∷ []) (drop (suc n) bs)) in
    let l = length-take-le n bs (omega arith) in
    record {
      octets = b ∷ (take n bs ++ 34 ∷ []);
      following = drop (suc n) bs;
      cut = ap (λ cs. b ∷ cs) whole;
      long = (let a = length-append (take n bs) (34 ∷ []) in omega arith);
      spelled = inl (record {
        body = take n bs;
        text = without_escapes false (take n bs);
        cut = ap (λ c. c ∷ (take n bs ++ 34 ∷ [])) e;
        spells = t.0;
        says = refl;
      });
    }

-- multi-line strings: the lines, each with its LF
pub line_rest : (bs : List ℕ) → prefix_len not_lf bs < length bs
    → lines_len false bs ≡ suc (prefix_len not_lf bs) + lines_len true (drop (suc (prefix_len not_lf bs)) bs)
unfolding lines_len
line_rest [] h = absurd (omega arith)
line_rest (b ∷ bs) h = elim (cases_Bool (b == 10)) [
  | inl e ↦ rw e (omega arith)
  | inr e ↦ (
      let k = rw e at h in
      let one : 1 + prefix_len not_lf bs ≡ suc (prefix_len not_lf bs) = omega arith in
      let r = line_rest bs (omega arith) in
      rw (e, one) (omega arith))
]

pub line_alone : (bs : List ℕ) → length bs ≤ prefix_len not_lf bs → lines_len false bs ≡ length bs
unfolding lines_len
line_alone [] h = refl
line_alone (b ∷ bs) h = elim (cases_Bool (b == 10)) [
  | inl e ↦ (let k = rw e at h in absurd (omega arith))
  | inr e ↦ (let k = rw e at h in rw e (ap suc (line_alone bs (omega arith))))
]

pub no_last : (bs : List ℕ) → is_last_line bs ≡ false → lines_len true bs ≡ lines_len false bs
unfolding lines_len
no_last [] h = refl
no_last (b ∷ bs) h = rw h refl

pub last_here : (bs : List ℕ) → is_last_line bs ≡ true → lines_len true bs ≡ 0
unfolding lines_len
last_here [] h = refl
last_here (b ∷ bs) h = rw h refl

last_line : (at_start : Bool) (bs : List ℕ) → lines_len at_start bs < length bs → is_last_line (drop (lines_len at_start bs) bs) ≡ true
unfolding lines_len
last_line at_start [] h = absurd (omega arith)
last_line true (b ∷ bs) h = elim (cases_Bool (is_last_line (b ∷ bs))) [
  | inl e ↦ rw e e
  | inr e ↦ (let k = rw e at h in rw e (last_line (b == 10) bs (omega arith)))
]
last_line false (b ∷ bs) h = last_line (b == 10) bs (omega arith)

-- the content of a line
inside : (content rest : List ℕ) → list_all not_lf content ≡ true
    → without_stuffing false (content ++ 10 ∷ rest) ≡ content ++ 10 ∷ without_stuffing true rest
unfolding without_stuffing
inside [] rest h = refl
inside (b ∷ content) rest h =
    let p = and_parts (not_lf b) (list_all not_lf content) h in
    rw (not-true (b == 10) p.0) (ap (λ cs. b ∷ cs) (inside content rest p.1))

begins_line : (content rest : List ℕ) → begins_with 46 (content ++ 10 ∷ rest) ≡ begins_with 46 content
begins_line [] rest = refl
begins_line (b ∷ content) rest = refl

pub line_says : (content rest : List ℕ) → list_all not_lf content ≡ true
    → without_stuffing true (content ++ 10 ∷ rest) ≡ without_dot content ++ 10 ∷ without_stuffing true rest
unfolding without_stuffing
line_says [] rest h = refl
line_says (b ∷ content) rest h =
    let p = and_parts (not_lf b) (list_all not_lf content) h in
    let i = inside content rest p.1 in
    rw (begins_line content rest, not-true (b == 10) p.0) (elim (cases_Bool ((b == 46) && begins_with 46 content)) [
      | inl t ↦ rw t i
      | inr t ↦ rw t (ap (λ cs. b ∷ cs) i)
    ])

-- a line is the last one where it is a single dot
pub suc_eqb : (n : ℕ) → (suc n == 0) ≡ false
suc_eqb n = ne_eqb (suc n) 0 (λ e. omega arith)

dot_test : (dot none : Bool) → (dot && (none || true)) ≡ dot
dot_test true true = refl
dot_test true false = refl
dot_test false none = refl

return_test : (dot return : Bool) → (dot && (false || nat_lt 0 (if return && true then 2 else 0))) ≡ (dot && return)
return_test true true = refl
return_test true false = refl
return_test false return = refl

other_test : (dot return : Bool) → (dot && (false || nat_lt 0 (if return && false then 2 else 0))) ≡ false
other_test true true = refl
other_test true false = refl
other_test false return = refl

pub dot_line : (content rest : List ℕ) → list_all not_lf content ≡ true → is_last_line (content ++ 10 ∷ rest) ≡ is_dot content
dot_line [] rest h = refl
dot_line (b ∷ []) rest h = dot_test (b == 46) (suc (length rest) == 0)
dot_line (b ∷ c ∷ []) rest h =
    let p = and_parts (not_lf b) (list_all not_lf (c ∷ [])) h in
    let q = and_parts (not_lf c) true p.1 in
    rw (suc_eqb (suc (length rest)), not-true (c == 10) q.0) (return_test (b == 46) (c == 13))
dot_line (b ∷ c ∷ d ∷ bs) rest h =
    let p = and_parts (not_lf b) (list_all not_lf (c ∷ d ∷ bs)) h in
    let q = and_parts (not_lf c) (list_all not_lf (d ∷ bs)) p.1 in
    let r = and_parts (not_lf d) (list_all not_lf bs) q.1 in
    rw (suc_eqb (suc (length (bs ++ 10 ∷ rest))), not-true (c == 10) q.0, not-true (d == 10) r.0) (other_test (b == 46) (c == 13))

-- an LF comes after a line's octets
pub at_line_feed : (bs : List ℕ) → prefix_len not_lf bs < length bs → drop (prefix_len not_lf bs) bs ≡ 10 ∷ drop (suc (prefix_len not_lf bs)) bs
at_line_feed [] h = absurd (omega arith)
at_line_feed (b ∷ bs) h = elim (cases_Bool (b == 10)) [
  | inl e ↦ rw e (ap (λ c. c ∷ bs) (eqb-true b 10 e))
  | inr e ↦ (
      let k = rw e at h in
      let one : 1 + prefix_len not_lf bs ≡ suc (prefix_len not_lf bs) = omega arith in
      rw (e, one) (at_line_feed bs (omega arith)))
]

taken_line : (bs content rest : List ℕ) (m n : ℕ) → bs ≡ content ++ 10 ∷ rest → length content ≡ m → take (suc m + n) bs ≡ content ++ 10 ∷ take n rest
taken_line bs content rest m n e l =
    let a : suc m + n ≡ length content + suc n = omega arith in
    rw (e, a) (take-append-add content (10 ∷ rest) (suc n))

no_lines_say : (bs : List ℕ) (n : ℕ) → n ≡ 0 → Lines (take n bs) (without_stuffing true (take n bs))
unfolding without_stuffing
no_lines_say bs n e = rw e no_lines

lines_from : (turns : ℕ) (bs : List ℕ) → length bs < turns → lines_len true bs < length bs
    → Lines (take (lines_len true bs) bs) (without_stuffing true (take (lines_len true bs) bs))
lines_from zero bs enough h = absurd (omega arith)
lines_from (suc turns) bs enough h = elim (cases_Bool (is_last_line bs)) [
  | inl e ↦ no_lines_say bs (lines_len true bs) (last_here bs e)
  | inr e ↦ elim (cases_lt (prefix_len not_lf bs) (length bs)) [
    | inr none ↦ (let a = line_alone bs none in let n = no_last bs e in absurd (omega arith))
    | inl some ↦ (
        let m : ℕ = prefix_len not_lf bs in
        let content : List ℕ = take m bs in
        let rest : List ℕ = drop (suc m) bs in
        let whole : bs ≡ content ++ 10 ∷ rest = sym (take-append-drop m bs) ∙ ap (λ cs. content ++ cs) (at_line_feed bs some) in
        let l = length-take-le m bs (omega arith) in
        let all = prefix_passes not_lf bs in
        let n : lines_len true bs ≡ suc m + lines_len true rest = no_last bs e ∙ line_rest bs some in
        let d = length-drop (suc m) bs in
        let t : take (lines_len true bs) bs ≡ content ++ 10 ∷ take (lines_len true rest) rest = ap (λ k. take k bs) n
        ∙ taken_line bs content rest m (lines_len true rest) whole l in
        let dot : is_dot content ≡ false = sym (dot_line content rest all) ∙ sym (ap is_last_line whole) ∙ e in
        let r = lines_from turns rest (omega arith) (omega arith) in
        rw (t, line_says content (take (lines_len true rest) rest) all)
        (line content (take (lines_len true rest) rest) (without_stuffing true (take (lines_len true rest) rest))
        all dot r))
  ]
]

-- a line end, or the script's end
pub line_end_taken : (bs : List ℕ) → 0 < line_end_len bs → IsLineEnd (take (line_end_len bs) bs)
line_end_taken [] h = absurd (omega arith)
line_end_taken (b ∷ []) h = elim (cases_Bool (b == 10)) [
  | inl e ↦ rw e (inl (ap (λ c. c ∷ []) (eqb-true b 10 e)))
  | inr e ↦ (let k = rw e at h in absurd (never (b == 13) k))
]
  where
    never : (t : Bool) → 0 < (if t && false then 2 else 0) → ⊥
    never true h = omega arith
    never false h = omega arith
line_end_taken (b ∷ c ∷ bs) h = elim (cases_Bool (b == 10)) [
  | inl e ↦ rw e (inl (ap (λ d. d ∷ []) (eqb-true b 10 e)))
  | inr e ↦ elim (cases_Bool ((b == 13) && (c == 10))) [
    | inl t ↦ (let p = and_parts (b == 13) (c == 10) t in rw (e, t) (inr (two b c (eqb-true b 13 p.0) (eqb-true c 10 p.1))))
    | inr t ↦ (let k = rw (e, t) at h in absurd (omega arith))
  ]
]
  where
    two : (b c : ℕ) → b ≡ 13 → c ≡ 10 → b ∷ c ∷ [] ≡ 13 ∷ 10 ∷ []
    two b c e f = rw (e, f) refl

-- the last line
pub record IsLastLine (bs : List ℕ) : Type 0 where
  pub rest : List ℕ
  pub cut : bs ≡ 46 ∷ rest
  pub ends : IsLineEnd (take (line_end_len rest) rest) ⊎ ((take (line_end_len rest) rest ≡ []) × (drop (line_end_len rest) rest ≡ []))

last_sound : (bs : List ℕ) → is_last_line bs ≡ true → IsLastLine bs
last_sound [] h = absurd (false≢true h)
last_sound (b ∷ bs) h =
    let p = and_parts (b == 46) ((length bs == 0) || nat_lt 0 (line_end_len bs)) h in
    record {
      rest = bs;
      cut = ap (λ c. c ∷ bs) (eqb-true b 46 p.0);
      ends = elim (or_cases (length bs == 0) (nat_lt 0 (line_end_len bs)) p.1) [
        | inl e ↦ inr (empty bs (eqb-true (length bs) 0 e))
        | inr e ↦ inl (line_end_taken bs (ltb-true 0 (line_end_len bs) e))
      ];
    }
  where
    empty : (bs : List ℕ) → length bs ≡ 0 → (take (line_end_len bs) bs ≡ []) × (drop (line_end_len bs) bs ≡ [])
    empty [] e = (refl, refl)
    empty (b ∷ bs) e = absurd (omega arith)

-- the line of "text:"
pub record IsOpening (bs : List ℕ) (n : ℕ) : Type 0 where
  pub comment : List ℕ
  pub end : List ℕ
  pub cut : bs ≡ comment ++ (end ++ drop n bs)
  pub long : length comment + length end ≡ n
  pub comment_is : (comment ≡ []) ⊎ ((begins_with 35 comment ≡ true) × (list_all not_lf comment ≡ true))
  pub end_is : IsLineEnd end

hash_begins : (bs : List ℕ) → begins_with 35 bs ≡ true → begins_with 35 (take (prefix_len not_lf bs) bs) ≡ true
hash_begins [] h = h
hash_begins (b ∷ bs) h =
    let e : 1 + prefix_len not_lf bs ≡ suc (prefix_len not_lf bs) = omega arith in
    let t : (b == 10) ≡ false = ne_eqb b 10 (λ f. let g = eqb-true b 35 h in omega arith) in
    rw (t, e) h

hash_opening : (bs : List ℕ) → begins_with 35 bs ≡ true → prefix_len not_lf bs < length bs → IsOpening bs (suc (prefix_len not_lf bs))
hash_opening bs h some = record {
  comment = take (prefix_len not_lf bs) bs;
  end = 10 ∷ [];
  cut = sym (take-append-drop (prefix_len not_lf bs) bs) ∙ ap (λ cs. take (prefix_len not_lf bs) bs ++ cs) (at_line_feed bs some);
  long = (let l = length-take-le (prefix_len not_lf bs) bs (omega arith) in omega arith);
  comment_is = inr (hash_begins bs h, prefix_passes not_lf bs);
  end_is = inl refl;
}

bare_opening : (bs : List ℕ) → 0 < line_end_len bs → IsOpening bs (line_end_len bs)
bare_opening bs some = record {
  comment = [];
  end = take (line_end_len bs) bs;
  cut = sym (take-append-drop (line_end_len bs) bs);
  long = (let l = length-take-le (line_end_len bs) bs (line_end_within bs) in omega arith);
  comment_is = inl refl;
  end_is = line_end_taken bs some;
}

pub opening_sound : (bs : List ℕ) (n : ℕ) → opening_end_at bs ≡ Ok n → IsOpening bs n
opening_sound bs n e = elim (tested (length bs == 0) (Err StringNotClosed) _ n e) [
  | inl h ↦ absurd (no_kind StringNotClosed n h.1)
  | inr h ↦ elim
      (tested (begins_with 35 bs) (if nat_lt (prefix_len not_lf bs) (length bs) then Ok (suc (prefix_len not_lf bs))
      else Err StringNotClosed) _ n h.1) [
        | inl h1 ↦ elim (tested (nat_lt (prefix_len not_lf bs) (length bs)) (Ok (suc (prefix_len not_lf bs))) (Err StringNotClosed) n h1.1) [
          | inl h2 ↦ subst (IsOpening bs) (same_kind (suc (prefix_len not_lf bs)) n h2.1)
              (hash_opening bs h1.0 (ltb-true (prefix_len not_lf bs) (length bs) h2.0))
          | inr h2 ↦ absurd (no_kind StringNotClosed n h2.1)
        ]
        | inr h1 ↦ elim (tested (nat_lt 0 (line_end_len bs)) (Ok (line_end_len bs)) (Err NoToken) n h1.1) [
          | inl h2 ↦ subst (IsOpening bs) (same_kind (line_end_len bs) n h2.1) (bare_opening bs (ltb-true 0 (line_end_len bs) h2.0))
          | inr h2 ↦ absurd (no_kind NoToken n h2.1)
        ]
      ]
]

-- "text:"
pub word_taken : (xs bs : List ℕ) → begins_as xs bs ≡ true → map to_ascii_lowercase (take (length xs) bs) ≡ xs
word_taken [] bs h = refl
word_taken (x ∷ xs) [] h = absurd (false≢true h)
word_taken (x ∷ xs) (b ∷ bs) h =
    let p = and_parts (to_ascii_lowercase b == x) (begins_as xs bs) h in
    both (to_ascii_lowercase b) x (map to_ascii_lowercase (take (length xs) bs)) xs (eqb-true (to_ascii_lowercase b) x p.0) (word_taken xs bs p.1)
  where
    both : (b x : ℕ) (bs xs : List ℕ) → b ≡ x → bs ≡ xs → b ∷ bs ≡ x ∷ xs
    both b x bs xs e f = rw (e, f) refl

joined : (bs word blanks comment end body last following rest more : List ℕ) → bs ≡ word
    ++ (blanks ++ (comment ++ (end ++ rest))) → rest ≡ body ++ 46 ∷ more → more ≡ last ++ following
    → bs ≡ (word ++ (blanks ++ (comment ++ (end ++ (body ++ 46 ∷ last))))) ++ following
joined bs word blanks comment end body last following rest more e f g = rw (e, f, g) (sym (simp append_assoc))

pub lines_cut : (bs word blanks comment end rest : List ℕ) → bs ≡ word ++ (blanks ++ (comment ++ (end ++ rest)))
    → IsTextColon word → list_all is_blank blanks ≡ true → IsHashComment comment → IsLineEnd end → (before : ℕ)
    → before ≡ length word + (length blanks + (length comment + length end)) → lines_len true rest < length rest
    → IsString bs (lines_value (take (lines_len true rest) rest))
    (before + (lines_len true rest + (1 + line_end_len (drop (lines_len true rest + 1) rest))))
lines_cut bs word blanks comment end rest whole w b c en before count some =
    let n : ℕ = lines_len true rest in
    let last = last_sound (drop n rest) (last_line true rest some) in
    let more : List ℕ = last.rest in
    let m : ℕ = line_end_len more in
    let l = length-take-le n rest (omega arith) in
    let lm = length-take-le m more (line_end_within more) in
    let following : drop (n + 1) rest ≡ more = drop_more n 1 rest ∙ ap (λ cs. drop 1 cs) last.cut in
    let pieces : rest ≡ take n rest ++ 46 ∷ more = sym (take-append-drop n rest) ∙ ap (λ cs. take n rest ++ cs) last.cut in
    let count_is : before + (n + (1 + line_end_len (drop (n + 1) rest))) ≡ before + (n + (1 + m)) =
    ap (λ cs. before + (n + (1 + line_end_len cs))) following in
    record {
      octets = word ++ (blanks ++ (comment ++ (end ++ (take n rest ++ 46 ∷ take m more))));
      following = drop m more;
      cut = joined bs word blanks comment end (take n rest) (take m more) (drop m more) rest more whole pieces (sym (take-append-drop m more));
      long = simp length-append (omega arith);
      spelled = inr (record {
        word = word;
        blanks = blanks;
        comment = comment;
        end = end;
        body = take n rest;
        text = without_stuffing true (take n rest);
        last = take m more;
        cut = refl;
        word_is = w;
        blanks_are = b;
        comment_is = c;
        end_is = en;
        body_is = lines_from (suc (length rest)) rest (omega arith) some;
        last_is = last.ends;
        says = refl;
      });
    }

lines_spelled : (bs word blanks comment end rest : List ℕ) → bs ≡ word ++ (blanks ++ (comment ++ (end ++ rest)))
    → IsTextColon word → list_all is_blank blanks ≡ true → IsHashComment comment → IsLineEnd end → (before : ℕ)
    → before ≡ length word + (length blanks + (length comment + length end)) → (k : TokenKind × ℕ)
    → lines_at before rest ≡ Ok k → IsSpelled bs k
lines_spelled bs word blanks comment end rest whole w b c en before count k e =
    let p = lines_parts before rest k e in
    let n : ℕ = lines_len true rest in
    let m : ℕ = before + (n + (1 + line_end_len (drop (n + 1) rest))) in
    spelled_as bs (
      kinds.StringValue (lines_value (take n rest)),
      m,
    ) k p.2 (string_spelled bs (lines_value (take n rest)) m (lines_cut bs word blanks comment end rest whole w b c
    en before count p.0) p.1)

text_sound : (bs : List ℕ) (k : TokenKind × ℕ) → begins_text bs ≡ true → multi_line_at (drop 5 bs) ≡ Ok k → IsSpelled bs k
text_sound bs k t e =
    let first : List ℕ = drop 5 bs in
    let n : ℕ = prefix_len is_blank first in
    let p = multi_line_parts first k e in
    let opening = opening_sound (drop n first) p.0 p.1 in
    let far = drop_more n p.0 first in
    let word_long = text_within bs t in
    let lw = length-take-le 5 bs word_long in
    let lb = length-take-le n first (prefix_len-le-length is_blank first) in
    let lo = opening.long in
    let whole : bs ≡ take 5 bs ++ (take n first ++ (opening.comment ++ (opening.end ++ drop p.0 (drop n first)))) =
    sym (take-append-drop 5 bs) ∙ ap (λ cs. take 5 bs ++ cs) (sym (take-append-drop n first)
    ∙ ap (λ cs. take n first ++ cs) opening.cut) in
    lines_spelled bs (take 5 bs) (take n first) opening.comment opening.end (drop p.0 (drop n first)) whole
    (word_taken (codes "text:") bs t) (prefix_passes is_blank first) opening.comment_is opening.end_is
    (5 + (n + p.0)) (omega arith) k (rw far at p.2)

-- the token that begins here
pub kind_sound : (bs : List ℕ) (k : TokenKind × ℕ) → kind_at bs ≡ Ok k → IsSpelled bs k
kind_sound [] k e = absurd (nothing_here k e)
kind_sound (b ∷ bs) k e = elim (branch b bs k e) [
  | lines t h ↦ text_sound (b ∷ bs) k t h
  | name t s h ↦ spelled_as (b ∷ bs) (
    kinds.Identifier (take (prefix_len is_word (b ∷ bs)) (b ∷ bs)),
    prefix_len is_word (b ∷ bs),
  ) k h (name_sound (b ∷ bs) s)
  | digits t s h ↦ (let p = number_parts (b ∷ bs) k h in spelled_as (b ∷ bs) _ k p.1 (number_sound (b ∷ bs) (one_more is_ascii_digit b bs s) p.0))
  | colon t h ↦
      (let p = tag_parts bs k h in spelled_as (b ∷ bs) (
        kinds.Tag (take (prefix_len is_word bs) bs),
        suc (prefix_len is_word bs),
      ) k p.1 (tag_sound b bs t p.0))
  | quote t h ↦
      (let p = quoted_parts bs k h in
      spelled_as (b ∷ bs) (
        kinds.StringValue (quoted_value (take (quoted_len false bs) bs)),
        quoted_len false bs + 2,
      ) k p.2 (string_spelled (b ∷ bs) (quoted_value (take (quoted_len false bs) bs))
      (quoted_len false bs + 2) (quoted_cut b bs t p.0) p.1))
  | one s d c q h ↦ (
      let p = mark_parts (mark_of b) k h in
      spelled_as (b ∷ bs) (kinds.Mark p.0, 1) k p.2 (record {
        octets = b ∷ [];
        following = bs;
        cut = refl;
        long = refl;
        spelled = ap (λ c. c ∷ []) (mark_octet b p.0 p.1);
        limited = tt;
      }))
]
