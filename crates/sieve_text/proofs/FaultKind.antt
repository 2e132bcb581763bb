-- What is refused is a faulty place by the grammar.
use Rattle.std.proofs.Common.{◌≡◌, ℕ, zero, suc, ◌+◌, ◌*◌, ◌<◌, ◌≤◌, ◌⊎◌, Bool, true, false, List, [], ◌∷◌, ◌++◌, length, take, drop, nat_lt, Option}
use Rattle.std.proofs.Common.{Some, None, Result, Ok, Err, refl, sym, ap, subst, ◌∙◌, arith, inl, inr, length-append, append_assoc}
use Rattle.std.specs.Prelude.{if◌then◌else◌, ◌==◌, codes}
use Rattle.std.specs.List.{prefix_len, list_all}
use Rattle.std.specs.Char.{is_ascii_digit}
use Rattle.std.specs.Str.Parse.{digits_value}
use Rattle.std.proofs.lemmas.Bool.{false≢true, both_ways, cases_Bool, cases_lt, eqb-true, eqb-false, ltb-true, ltb-false, and_parts}
use Rattle.std.proofs.lemmas.List.{length-drop, length-take-le, take-append-drop, nil_from_length}
use Rattle.std.proofs.lemmas.List.Sums.{prefix_len-le-length}
use Rattle.sieve_syntax.specs.declared.token.Mark.{Mark}
use Rattle.sieve_syntax.specs.declared.token.TokenKind.{TokenKind}
use Rattle.sieve_syntax.specs.declared.token.TokenKind.TheVariants as kinds
use Rattle.sieve_text.specs.declared.fault.ScanRefusal.{ScanRefusal}
use Rattle.sieve_text.specs.declared.fault.ScanRefusal.TheVariants.{NoToken, StringNotClosed, CommentNotClosed, NumberTooLarge, StringTooLong}
use Rattle.sieve_text.specs.Octets.{is_blank, is_white, is_start, is_word, not_lf, begins, begins_with, line_end_len}
use Rattle.sieve_text.specs.Gaps.{bracketed_len, opens_bracketed, comment_len, gap_len}
use Rattle.sieve_text.specs.Strings.{quoted_len, quoted_value, begins_text, opening_end_at, is_last_line, lines_len, lines_value}
use Rattle.sieve_text.specs.Tokens.{mark_of, mark_kind, string_kind, quoted_at, lines_at, multi_line_at, tag_at}
use Rattle.sieve_text.specs.Tokens.{factor_at, number_at, identifier_at, kind_at, either_place, text_len, ◌>>=◌}
use Rattle.sieve_text.specs.TokenGrammar.{IsNumber, QuotedText, quoted_end, quoted_plain, quoted_pair, IsLineEnd, is_dot, without_dot, Lines}
use Rattle.sieve_text.specs.TokenGrammar.{no_lines, line, IsTextColon, IsHashComment, octet_of, closes}
use Rattle.sieve_text.specs.FaultGrammar.{no_beginning, no_tag, no_opening, OpenString, open_quoted, open_escape}
use Rattle.sieve_text.specs.FaultGrammar.{open_opening, open_lines, IsLargeNumber, IsFaultHere}
use Rattle.sieve_text.proofs.GapLemmas.{drop_more}
use Rattle.sieve_text.proofs.GapGrammar.{before, closes_from_after, prefix_passes, prefix_ends}
use Rattle.sieve_text.proofs.GrammarParts.{octet_mark, quantifier_taken, quantifier_counts}
use Rattle.sieve_text.proofs.KindGrammar.{IsString, IsOpening, quoted_cut, lines_cut, opening_sound, word_taken}
use Rattle.sieve_text.proofs.KindGrammar.{last_here, no_last, line_rest, dot_line, at_line_feed}
use Rattle.sieve_text.proofs.Longest.{digits_short}
use Rattle.sieve_text.proofs.WithinLemmas.{one_more, factor_within, text_within}

went : {A : Type 0} (t : Bool) (x y z : A) → (if t then x else y) ≡ z → ((t ≡ true) × (x ≡ z)) ⊎ ((t ≡ false) × (y ≡ z))
went true x y z e = inl (refl, e)
went false x y z e = inr (refl, e)

abbrev refused_as : {A : Type 0} → ScanRefusal → Result A ScanRefusal
refused_as r = Err r

pub no_answer : {A : Type 0} (x : A) (r : ScanRefusal) → ◌≡◌ {A = Result A ScanRefusal} (Ok x) (Err r) → ⊥
no_answer x r e = cc

same_refusal : {A : Type 0} (r s : ScanRefusal) → ◌≡◌ {A = Result A ScanRefusal} (Err r) (Err s) → r ≡ s
same_refusal r s e = cc

bound_refused : {A B : Type 0} (x : Result A ScanRefusal) (f : A → Result B ScanRefusal) (r : ScanRefusal)
    → (x >>= f) ≡ Err r → (x ≡ Err r) ⊎ ((a : A) × (x ≡ Ok a) × (f a ≡ Err r))
bound_refused (Ok a) f r e = inr (a, refl, e)
bound_refused {A} {B} (Err s) f r e = inl (ap (λ (q : ScanRefusal). Err q) (same_refusal {A = B} s r e))

-- what is to be shown of a refusal in its place
abbrev Goal : List ℕ → ScanRefusal → Type 0
Goal bs r = IsFaultHere r (either_place 0 (text_len bs) r) bs

-- NUMBERS

number_longest : (bs : List ℕ) (other : ℕ) (more rest : List ℕ) → bs ≡ more ++ rest → IsNumber other more
    → length more ≤ prefix_len is_ascii_digit bs + (factor_at (drop (prefix_len is_ascii_digit bs) bs)).1
number_longest bs other more rest same h =
    let whole : bs ≡ h.digits ++ (h.quantifier ++ rest) = same ∙ ap (λ (cs : List ℕ). cs ++ rest) h.cut ∙ append_assoc h.digits h.quantifier rest in
    let s = digits_short h.digits h.quantifier rest h.factor h.all (quantifier_counts h.quantifier h.factor h.counts) in
    let l : length more ≡ length h.digits + length h.quantifier = ap length h.cut ∙ length-append h.digits h.quantifier in
    let P : List ℕ → Type 0 = λ cs. length more ≤ prefix_len is_ascii_digit cs + (factor_at (drop (prefix_len is_ascii_digit cs) cs)).1 in
    subst P (sym whole) (omega arith)

large_number : (bs : List ℕ) → 0 < prefix_len is_ascii_digit bs
    → 9223372036854775807 < digits_value 10 (take (prefix_len is_ascii_digit bs) bs) *
    (factor_at (drop (prefix_len is_ascii_digit bs) bs)).0 → IsLargeNumber bs
large_number bs some large =
    let n : ℕ = prefix_len is_ascii_digit bs in
    let rest : List ℕ = drop n bs in
    let f : ℕ = (factor_at rest).1 in
    let l = length-take-le n bs (prefix_len-le-length is_ascii_digit bs) in
    let m = length-take-le f rest (factor_within rest) in
    record {
      value = digits_value 10 (take n bs) * (factor_at rest).0;
      octets = take n bs ++ take f rest;
      following = drop f rest;
      cut = sym (append_assoc (take n bs) (take f rest) (drop f rest) ∙ ap (λ cs. take n bs ++ cs) (take-append-drop f rest) ∙ take-append-drop n bs);
      number = record {
        digits = take n bs;
        quantifier = take f rest;
        factor = (factor_at rest).0;
        cut = refl;
        some = omega arith;
        all = prefix_passes is_ascii_digit bs;
        counts = quantifier_taken rest;
        says = refl;
      };
      longest = λ other more following same h. (let a = length-append (take n bs) (take f rest) in let k =
          number_longest bs other more following same h in omega arith);
      large = large;
    }

number_refused : (bs : List ℕ) (r : ScanRefusal) → 0 < prefix_len is_ascii_digit bs → number_at bs ≡ Err r → Goal bs r
unfolding number_at
number_refused bs r some e = elim (went (nat_lt 9223372036854775807 value) (refused_as NumberTooLarge) (Ok (kinds.Number value, m)) (Err r) e) [
  | inl h ↦ subst (Goal bs) (same_refusal {A = TokenKind × ℕ} NumberTooLarge r h.1) (
    refl,
    large_number bs some (ltb-true 9223372036854775807 value h.0),
  )
  | inr h ↦ absurd (no_answer (kinds.Number value, m) r h.1)
]
  where
    n : ℕ
    n = prefix_len is_ascii_digit bs

    value : ℕ
    value = digits_value 10 (take n bs) * (factor_at (drop n bs)).0

    m : ℕ
    m = n + (factor_at (drop n bs)).1

-- TAGS

tag_refusal : (b : ℕ) (bs : List ℕ) (r : ScanRefusal) → b ≡ 58 → tag_at bs ≡ Err r → Goal (b ∷ bs) r
unfolding tag_at
tag_refusal b bs r e t =
    elim (went (begins is_start bs) (Ok (kinds.Tag (take (prefix_len is_word bs) bs), suc (prefix_len is_word bs)))
    (refused_as NoToken) (Err r) t) [
      | inl h ↦ absurd (no_answer (kinds.Tag (take (prefix_len is_word bs) bs), suc (prefix_len is_word bs)) r h.1)
      | inr h ↦ subst (Goal (b ∷ bs)) (same_refusal {A = TokenKind × ℕ} NoToken r h.1) (
          let P : ℕ → Type 0 = λ c. Goal (c ∷ bs) NoToken in
          subst P (sym e) (no_tag bs h.0))
    ]

-- STRINGS

long_refusal : (bs value : List ℕ) (n : ℕ) (r : ScanRefusal) → IsString bs value n → string_kind value n ≡ Err r → Goal bs r
long_refusal bs value n r s e = elim (went (nat_lt 65535 (length value)) (refused_as StringTooLong) (Ok (kinds.StringValue value, n)) (Err r) e) [
  | inl h ↦ subst (Goal bs) (same_refusal {A = TokenKind × ℕ} StringTooLong r h.1) (
    refl,
    record {
      value = value;
      octets = s.octets;
      following = s.following;
      cut = s.cut;
      string = s.spelled;
      long =
          ltb-true 65535 (length value) h.0;
    },
  )
  | inr h ↦ absurd (no_answer (kinds.StringValue value, n) r h.1)
]

-- a text between quotation marks that the script's end leaves open
OpenText : List ℕ → Type 0
OpenText bs = ((text : List ℕ) × QuotedText bs text) ⊎ ((body : List ℕ) × (text : List ℕ) × QuotedText body text × (bs ≡ body ++ 92 ∷ []))

plain_more : (b : ℕ) (bs : List ℕ) → (b ≡ 34 → ⊥) → (b ≡ 92 → ⊥) → OpenText bs → OpenText (b ∷ bs)
unfolding OpenText
plain_more b bs n34 n92 (inl h) = inl (b ∷ h.0, quoted_plain b bs h.0 n34 n92 h.1)
plain_more b bs n34 n92 (inr h) = inr (b ∷ h.0, b ∷ h.1, quoted_plain b h.0 h.1 n34 n92 h.2, ap (λ (cs : List ℕ). b ∷ cs) h.3)

pair_more : (b c : ℕ) (bs : List ℕ) → b ≡ 92 → OpenText bs → OpenText (b ∷ c ∷ bs)
unfolding OpenText
pair_more b c bs e (inl h) = rw e (inl (c ∷ h.0, quoted_pair c bs h.0 h.1))
pair_more b c bs e (inr h) = rw e (inr (92 ∷ c ∷ h.0, c ∷ h.1, quoted_pair c h.0 h.1 h.2, ap (λ (cs : List ℕ). 92 ∷ c ∷ cs) h.3))

open_text : (bs : List ℕ) → length bs ≤ quoted_len false bs → OpenText bs
unfolding quoted_len OpenText
open_text [] h = inl ([], quoted_end)
open_text (b ∷ []) h = elim (cases_Bool (b == 34)) [
  | inl e ↦ (let k = rw e at h in absurd (omega arith))
  | inr e ↦ elim (cases_Bool (b == 92)) [
    | inl f ↦ inr ([], [], quoted_end, ap (λ c. c ∷ []) (eqb-true b 92 f))
    | inr f ↦ inl (b ∷ [], quoted_plain b [] [] (eqb-false b 34 e) (eqb-false b 92 f) quoted_end)
  ]
]
open_text (b ∷ c ∷ bs) h = elim (cases_Bool (b == 34)) [
  | inl e ↦ (let k = rw e at h in absurd (omega arith))
  | inr e ↦ elim (cases_Bool (b == 92)) [
    | inl f ↦ (let k = rw (e, f) at h in pair_more b c bs (eqb-true b 92 f) (open_text bs (omega arith)))
    | inr f ↦ (let k = rw (e, f) at h in plain_more b (c ∷ bs) (eqb-false b 34 e) (eqb-false b 92 f) (open_text (c ∷ bs) (omega arith)))
  ]
]

open_quote : (bs : List ℕ) → OpenText bs → OpenString (34 ∷ bs)
unfolding OpenText
open_quote bs (inl h) = open_quoted bs h.0 h.1
open_quote bs (inr h) = rw h.3 (open_escape h.0 h.1 h.2)

quote_refusal : (b : ℕ) (bs : List ℕ) (r : ScanRefusal) → b ≡ 34 → quoted_at bs ≡ Err r → Goal (b ∷ bs) r
unfolding quoted_at
quote_refusal b bs r e q =
    elim (went (nat_lt n (length bs)) (string_kind (quoted_value (take n bs)) (n + 2)) (refused_as StringNotClosed)
    (Err r) q) [
      | inl h ↦ long_refusal (b ∷ bs) (quoted_value (take n bs)) (n + 2) r (quoted_cut b bs e (ltb-true n (length bs) h.0)) h.1
      | inr h ↦ subst (Goal (b ∷ bs)) (same_refusal {A = TokenKind × ℕ} StringNotClosed r h.1) (
        refl,
        (let P : ℕ → Type 0 = λ c. OpenString (c ∷ bs) in
            subst P (sym e) (open_quote bs (open_text bs (ltb-false n (length bs) h.0)))),
      )
    ]
  where
    n : ℕ
    n = quoted_len false bs

-- lines that the script's end leaves open
pub record IsOpenLines (bs : List ℕ) : Type 0 where
  pub body : List ℕ
  pub text : List ℕ
  pub last : List ℕ
  pub cut : bs ≡ body ++ last
  pub lines : Lines body text
  pub clean : list_all not_lf last ≡ true
  pub no_dot : last ≡ 46 ∷ [] → ⊥

alone : (bs : List ℕ) → length bs ≤ prefix_len not_lf bs → list_all not_lf bs ≡ true
alone [] h = refl
alone (b ∷ bs) h = elim (cases_Bool (b == 10)) [
  | inl e ↦ (let k = rw e at h in absurd (omega arith))
  | inr e ↦ (let k = rw e at h in rw e (alone bs (omega arith)))
]

dot_ends : is_last_line (46 ∷ []) ≡ true
dot_ends = refl

open_lines_from : (turns : ℕ) (bs : List ℕ) → length bs < turns → length bs ≤ lines_len true bs → IsOpenLines bs
open_lines_from zero bs enough h = absurd (omega arith)
open_lines_from (suc turns) bs enough h = elim (cases_Bool (is_last_line bs)) [
  | inl e ↦ absurd (some_line bs e (omega (arith, last_here bs e)))
  | inr e ↦ elim (cases_lt (prefix_len not_lf bs) (length bs)) [
    | inr none ↦ record {
      body = [];
      text = [];
      last = bs;
      cut = refl;
      lines = no_lines;
      clean = alone bs none;
      no_dot =
          λ d. both_ways (is_last_line (46 ∷ [])) (sym (ap is_last_line d) ∙ e) dot_ends;
    }
    | inl some ↦ (
        let m : ℕ = prefix_len not_lf bs in
        let content : List ℕ = take m bs in
        let rest : List ℕ = drop (suc m) bs in
        let whole : bs ≡ content ++ 10 ∷ rest = sym (take-append-drop m bs) ∙ ap (λ cs. content ++ cs) (at_line_feed bs some) in
        let all = prefix_passes not_lf bs in
        let n : lines_len true bs ≡ suc m + lines_len true rest = no_last bs e ∙ line_rest bs some in
        let d = length-drop (suc m) bs in
        let dot : is_dot content ≡ false = sym (dot_line content rest all) ∙ sym (ap is_last_line whole) ∙ e in
        let r = open_lines_from turns rest (omega arith) (omega arith) in
        record {
          body = content ++ 10 ∷ r.body;
          text = without_dot content ++ 10 ∷ r.text;
          last = r.last;
          cut = whole ∙ ap (λ (cs : List ℕ). content ++ 10 ∷ cs) r.cut ∙ sym (append_assoc content (10 ∷ r.body) r.last);
          lines = line content r.body r.text all dot r.lines;
          clean = r.clean;
          no_dot = r.no_dot;
        })
  ]
]
  where
    some_line : (bs : List ℕ) → is_last_line bs ≡ true → length bs ≤ 0 → ⊥
    some_line [] e h = false≢true e
    some_line (b ∷ bs) e h = omega arith

-- the line of "text:" that the script's end leaves open, or that has no line end
first_line : (bs word blanks from : List ℕ) (r : ScanRefusal) → bs ≡ word ++ (blanks ++ from) → IsTextColon word
    → list_all is_blank blanks ≡ true → begins is_blank from ≡ false → text_len bs ≡ length word + length blanks
    → opening_end_at from ≡ Err r → Goal bs r
first_line bs word blanks from r whole w all stops place e = elim (went (length from == 0) (refused_as StringNotClosed) _ (Err r) e) [
  | inl h ↦ subst (Goal bs) (same_refusal {A = ℕ} StringNotClosed r h.1) (
    refl,
    rw (whole, nil_from_length from (eqb-true (length from) 0 h.0)) (open_opening word blanks [] w all (inl refl)),
  )
  | inr h ↦ elim
      (went (begins_with 35 from) (if nat_lt (prefix_len not_lf from) (length from) then Ok
      (suc (prefix_len not_lf from)) else Err StringNotClosed) _ (Err r) h.1) [
        | inl h1 ↦ elim (went (nat_lt (prefix_len not_lf from) (length from)) (Ok (suc (prefix_len not_lf from)))
            (refused_as StringNotClosed) (Err r) h1.1) [
              | inl h2 ↦ absurd (no_answer (suc (prefix_len not_lf from)) r h2.1)
              | inr h2 ↦ subst (Goal bs) (same_refusal {A = ℕ} StringNotClosed r h2.1) (
                refl,
                rw whole (open_opening word blanks from w all (inr (
                  h1.0,
                  alone from (ltb-false (prefix_len not_lf from) (length from) h2.0),
                ))),
              )
            ]
        | inr h1 ↦ elim (went (nat_lt 0 (line_end_len from)) (Ok (line_end_len from)) (refused_as NoToken) (Err r) h1.1) [
          | inl h2 ↦ absurd (no_answer (line_end_len from) r h2.1)
          | inr h2 ↦ subst (Goal bs) (same_refusal {A = ℕ} NoToken r h2.1) (
              let none : line_end_len from ≤ 0 = ltb-false 0 (line_end_len from) h2.0 in
              rw (place, whole) (no_opening word blanks from w all (record {
                some = some_from from (eqb-false (length from) 0 h.0);
                blank = stops;
                hash = h1.0;
                line_end = λ end following same is. no_end from end following same is none;
              })))
        ]
      ]
]
  where
    some_from : (bs : List ℕ) → (length bs ≡ 0 → ⊥) → 0 < length bs
    some_from [] h = absurd (h refl)
    some_from (b ∷ bs) h = omega arith

    no_end : (from end following : List ℕ) → from ≡ end ++ following → IsLineEnd end → line_end_len from ≤ 0 → ⊥
    no_end from end following same (inl e) none = let k : 1 ≤ 0 = rw (same, e) at none in omega arith
    no_end from end following same (inr e) none = let k : 2 ≤ 0 = rw (same, e) at none in omega arith

lines_refusal : (bs word blanks comment end rest : List ℕ) → bs ≡ word ++ (blanks ++ (comment ++ (end ++ rest)))
    → IsTextColon word → list_all is_blank blanks ≡ true → IsHashComment comment → IsLineEnd end → (before : ℕ)
    → before ≡ length word + (length blanks + (length comment + length end)) → (r : ScanRefusal)
    → lines_at before rest ≡ Err r → Goal bs r
unfolding lines_at
lines_refusal bs word blanks comment end rest whole w b c en before count r e =
    elim (went (nat_lt n (length rest)) (string_kind (lines_value (take n rest)) m) (refused_as StringNotClosed) (Err r)
    e) [
      | inl h ↦ long_refusal bs (lines_value (take n rest)) m r (lines_cut bs word blanks comment end rest whole w b c en
          before count (ltb-true n (length rest) h.0)) h.1
      | inr h ↦ subst (Goal bs) (same_refusal {A = TokenKind × ℕ} StringNotClosed r h.1) (
        refl,
        opened (open_lines_from (suc (length rest)) rest (omega arith) (ltb-false n (length rest) h.0)),
      )
    ]
  where
    n : ℕ
    n = lines_len true rest

    m : ℕ
    m = before + (n + (1 + line_end_len (drop (n + 1) rest)))

    opened : IsOpenLines rest → OpenString bs
    opened o = subst OpenString (sym (whole ∙ ap (λ (cs : List ℕ). word ++ (blanks ++ (comment ++ (end ++ cs)))) o.cut))
        (open_lines word blanks comment end o.body o.text o.last w b c en o.lines o.clean o.no_dot)

text_refusal : (bs : List ℕ) (r : ScanRefusal) → begins_text bs ≡ true → multi_line_at (drop 5 bs) ≡ Err r → Goal bs r
unfolding multi_line_at
text_refusal bs r t e = elim (bound_refused (opening_end_at (drop n first)) (λ m. lines_at (5 + (n + m)) (drop (n + m) first)) r e) [
  | inl h ↦ first_line bs (take 5 bs) (take n first) (drop n first) r whole word_is blanks_are (prefix_ends is_blank first) place h
  | inr h ↦ go h.0 (opening_sound (drop n first) h.0 h.1) h.2
]
  where
    first : List ℕ
    first = drop 5 bs

    n : ℕ
    n = prefix_len is_blank first

    word_is : IsTextColon (take 5 bs)
    word_is = word_taken (codes "text:") bs t

    blanks_are : list_all is_blank (take n first) ≡ true
    blanks_are = prefix_passes is_blank first

    whole : bs ≡ take 5 bs ++ (take n first ++ drop n first)
    whole = sym (take-append-drop 5 bs) ∙ ap (λ (cs : List ℕ). take 5 bs ++ cs) (sym (take-append-drop n first))

    word_long : length (take 5 bs) ≡ 5
    word_long = length-take-le 5 bs (text_within bs t)

    blanks_long : length (take n first) ≡ n
    blanks_long = length-take-le n first (prefix_len-le-length is_blank first)

    place : text_len bs ≡ length (take 5 bs) + length (take n first)
    place = let lw = word_long in let lb = blanks_long in rw t (omega arith)

    go : (m : ℕ) → IsOpening (drop n first) m → lines_at (5 + (n + m)) (drop (n + m) first) ≡ Err r → Goal bs r
    go m opening l =
        let lw = word_long in
        let lb = blanks_long in
        let lo = opening.long in
        let rest : List ℕ = drop m (drop n first) in
        lines_refusal bs (take 5 bs) (take n first) opening.comment opening.end rest (whole
        ∙ ap (λ (cs : List ℕ). take 5 bs ++ (take n first ++ cs)) opening.cut) word_is blanks_are opening.comment_is
        opening.end_is (5 + (n + m)) (omega arith) r (rw (drop_more n m first) at l)

-- COMMENTS, AND NOTHING

gap_parts : (b : ℕ) (bs : List ℕ) → gap_len 0 (b ∷ bs) ≡ 0 → (is_white b ≡ false) × (comment_len (b ∷ bs) ≡ 0)
unfolding gap_len
gap_parts b bs h = elim (cases_Bool (is_white b)) [
  | inl w ↦ (let k = rw w at h in absurd (omega arith))
  | inr w ↦ elim (cases_Bool (nat_lt 0 (comment_len (b ∷ bs)))) [
    | inl c ↦ (let k = rw (w, c) at h in absurd (omega arith))
    | inr c ↦ (w, (let k = ltb-false 0 (comment_len (b ∷ bs)) c in omega arith))
  ]
]

closes_none : (after_star : Bool) (bs : List ℕ) → length bs ≤ bracketed_len after_star bs → closes (before after_star bs) ≡ false
unfolding bracketed_len
closes_none true [] h = refl
closes_none false [] h = refl
closes_none true (b ∷ bs) h = elim (cases_Bool (b == 47)) [
  | inl e ↦ (let k = rw e at h in absurd (omega arith))
  | inr e ↦ (let k = rw e at h in let r = closes_from_after b bs (closes_none (b == 42) bs (omega arith)) in rw e r)
]
closes_none false (b ∷ bs) h = closes_from_after b bs (closes_none (b == 42) bs (omega arith))

not_closed : (b c : ℕ) (body : List ℕ) → (b == 35) ≡ false → opens_bracketed (b ∷ c ∷ body) ≡ true
    → comment_len (b ∷ c ∷ body) ≡ 0 → closes body ≡ false
unfolding comment_len
not_closed b c body h o e = elim (cases_Bool (nat_lt (bracketed_len false body) (length body))) [
  | inl t ↦ (let k = rw (h, o, t) at e in absurd (omega arith))
  | inr t ↦ closes_none false body (ltb-false (bracketed_len false body) (length body) t)
]

hash_no_slash : (b : ℕ) → (b == 47) ≡ true → (b == 35) ≡ false
hash_no_slash b e = let is : b ≡ 47 = eqb-true b 47 e in rw is refl

comment_refusal : (b : ℕ) (bs : List ℕ) → opens_bracketed (b ∷ bs) ≡ true → comment_len (b ∷ bs) ≡ 0 → (body : List ℕ)
    × (b ∷ bs ≡ 47 ∷ 42 ∷ body) × (closes body ≡ false)
comment_refusal b [] o c = absurd (false≢true (and_parts (b == 47) false o).1)
comment_refusal b (d ∷ body) o c =
    let p = and_parts (b == 47) (d == 42) o in
    (body, two b d (eqb-true b 47 p.0) (eqb-true d 42 p.1), not_closed b d body (hash_no_slash b p.0) o c)
  where
    two : (b d : ℕ) → b ≡ 47 → d ≡ 42 → b ∷ d ∷ body ≡ 47 ∷ 42 ∷ body
    two b d e f = rw (e, f) refl

no_hash : (b : ℕ) (bs : List ℕ) → comment_len (b ∷ bs) ≡ 0 → (b == 35) ≡ false
unfolding comment_len
no_hash b bs e = elim (cases_Bool (b == 35)) [
  | inl h ↦ (let is : b ≡ 35 = eqb-true b 35 h in let k : 1 + prefix_len not_lf bs ≡ 0 = rw is at e in absurd (omega arith))
  | inr h ↦ h
]

mark_refusal : (m : Option Mark) (r : ScanRefusal) → mark_kind m ≡ Err r → (m ≡ None) × (NoToken ≡ r)
mark_refusal None r e = (refl, same_refusal {A = TokenKind × ℕ} NoToken r e)
mark_refusal (Some m) r e = absurd (no_answer (kinds.Mark m, 1) r e)

no_mark_there : (b : ℕ) → mark_of b ≡ None → (m : Mark) → b ≡ octet_of m → ⊥
no_mark_there b e m is = clash (sym e ∙ ap mark_of is ∙ octet_mark m)
  where
    clash : ◌≡◌ {A = Option Mark} None (Some m) → ⊥
    clash e = cc

slash_alone : (b : ℕ) (bs : List ℕ) → opens_bracketed (b ∷ bs) ≡ false → b ≡ 47 → begins_with 42 bs ≡ false
slash_alone b bs o is = rw is at o

-- ANY REFUSAL

pub kind_refused : (b : ℕ) (bs : List ℕ) (r : ScanRefusal) → kind_at (b ∷ bs) ≡ Err r → gap_len 0 (b ∷ bs) ≡ 0
    → IsFaultHere r (either_place 0 (text_len (b ∷ bs)) r) (b ∷ bs)
unfolding kind_at
kind_refused b bs r e g = elim (went (begins_text (b ∷ bs)) (multi_line_at (drop 5 (b ∷ bs))) _ (Err r) e) [
  | inl h ↦ text_refusal (b ∷ bs) r h.0 h.1
  | inr h ↦ elim (went (is_start b) (identifier_at (b ∷ bs)) _ (Err r) h.1) [
    | inl h1 ↦ absurd (no_answer (kinds.Identifier (take (prefix_len is_word (b ∷ bs)) (b ∷ bs)), prefix_len is_word (b ∷ bs)) r h1.1)
    | inr h1 ↦ elim (went (is_ascii_digit b) (number_at (b ∷ bs)) _ (Err r) h1.1) [
      | inl h2 ↦ number_refused (b ∷ bs) r (one_more is_ascii_digit b bs h2.0) h2.1
      | inr h2 ↦ elim (went (b == 58) (tag_at bs) _ (Err r) h2.1) [
        | inl h3 ↦ tag_refusal b bs r (eqb-true b 58 h3.0) h3.1
        | inr h3 ↦ elim (went (b == 34) (quoted_at bs) _ (Err r) h3.1) [
          | inl h4 ↦ quote_refusal b bs r (eqb-true b 34 h4.0) h4.1
          | inr h4 ↦ elim (went (opens_bracketed (b ∷ bs)) (refused_as CommentNotClosed) (mark_kind (mark_of b)) (Err r) h4.1) [
            | inl h5 ↦ subst (Goal (b ∷ bs)) (same_refusal {A = TokenKind × ℕ} CommentNotClosed r h5.1) (
              refl,
              comment_refusal b bs h5.0 (gap_parts b bs g).1,
            )
            | inr h5 ↦ (let p = mark_refusal (mark_of b) r h5.1 in subst (Goal (b ∷ bs)) p.1 (rw h.0 (no_beginning b bs (record {
              white = (gap_parts b bs g).0;
              hash = no_hash b bs (gap_parts b bs g).1;
              name = h1.0;
              digit = h2.0;
              colon = h3.0;
              quote = h4.0;
              mark = no_mark_there b p.0;
              comment = slash_alone b bs h5.0;
            }))))
          ]
        ]
      ]
    ]
  ]
]
