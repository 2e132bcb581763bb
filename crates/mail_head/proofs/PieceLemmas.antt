-- The header of a message that comes in pieces.
use Rattle.std.proofs.Common.{◌≡◌, ℕ, zero, suc, ◌+◌, ◌-◌, ◌≤◌, Bool, true, false, cond, eqb, List, [], ◌∷◌, ◌++◌}
use Rattle.std.proofs.Common.{length, take, refl, sym, ap, ◌∙◌, arith, get_or, ◌⊎◌, inl, inr, append_assoc, eqb-true}
use Rattle.std.proofs.lemmas.List.{append-nil, length-append, length-take}
use Rattle.std.specs.Prelude.{nat_lt, ◌&&◌}
use Rattle.std.specs.List.{concat}
use Rattle.std.proofs.Math.Bool.{and-false}
use Rattle.mail_head.proofs.SpanLemmas.{without_lf}
use Rattle.mail_head.specs.Lines.{raw_lines, without_end, header_lines, header_of, line_len}

-- no octet is an LF
abbrev pub NoEnd : List ℕ → Type 0
NoEnd [] = Unit {0}
NoEnd (b ∷ bs) = (eqb b 10 ≡ false) × NoEnd bs

pub NoEnd-append : (xs ys : List ℕ) → NoEnd xs → NoEnd ys → NoEnd (xs ++ ys)
NoEnd-append [] ys h k = k
NoEnd-append (x ∷ xs) ys h k = (h.0, NoEnd-append xs ys h.1 k)

-- a text has no line end, or it begins with a whole line
abbrev pub Whole : List ℕ → Type 0
Whole bs = (t : List ℕ) × (r : List ℕ) × (bs ≡ t ++ 10 ∷ r) × NoEnd t

pub first_line : (bs : List ℕ) → NoEnd bs ⊎ Whole bs
first_line [] = inl tt
first_line (b ∷ bs) = at_first (eqb b 10) refl (first_line bs)
  where
    at_first : (t : Bool) → eqb b 10 ≡ t → NoEnd bs ⊎ Whole bs → NoEnd (b ∷ bs) ⊎ Whole (b ∷ bs)
    at_first true e h = inr ([], bs, ap (λ c. c ∷ bs) (eqb-true b 10 e), tt)
    at_first false e (inl h) = inl (e, h)
    at_first false e (inr h) = inr (b ∷ h.0, h.1, ap (λ xs. b ∷ xs) h.2, (e, h.3))

-- the lines of a text
raw_lines_whole : (t r : List ℕ) → NoEnd t → raw_lines (t ++ 10 ∷ r) ≡ (t ++ 10 ∷ []) ∷ raw_lines r
unfolding raw_lines
raw_lines_whole [] r h = refl
raw_lines_whole (b ∷ t) r h = rw (h.0, raw_lines_whole t r h.1) refl

raw_lines_open : (b : ℕ) (t : List ℕ) → NoEnd (b ∷ t) → raw_lines (b ∷ t) ≡ (b ∷ t) ∷ []
unfolding raw_lines
raw_lines_open b [] h = rw h.0 refl
raw_lines_open b (c ∷ t) h = rw (h.0, raw_lines_open c t h.1) refl

pub line_len_whole : (t r : List ℕ) → NoEnd t → line_len (t ++ 10 ∷ r) ≡ length t + 1
unfolding line_len
line_len_whole [] r h = refl
line_len_whole (b ∷ t) r h = rw (h.0, line_len_whole t r h.1) (omega arith)

pub line_len_open : (t : List ℕ) → NoEnd t → line_len t ≡ length t
unfolding line_len
line_len_open [] h = refl
line_len_open (b ∷ t) h = rw (h.0, line_len_open t h.1) refl

abbrev last_of : List ℕ → ℕ
last_of bs = get_or bs (length bs - 1) 0

some-last : (t : List ℕ) (x : ℕ) → nat_lt 0 (length (t ++ x ∷ [])) ≡ true
some-last t x = let long : length (t ++ x ∷ []) ≡ length t + 1 = length-append t (x ∷ []) in grind arith

length_cond : (t : Bool) (xs : List ℕ) → length xs - 1 ≤ length (cond t (take (length xs - 1) xs) xs)
length_cond true xs = omega (arith, length-take (length xs - 1) xs)
length_cond false xs = omega arith

-- a line that ends in LF has text before its end: two octets or more, or one that is no CR
abbrev pub HasText : List ℕ → Type 0
HasText t = nat_lt 0 (length (without_end (t ++ 10 ∷ []))) ≡ true

pub HasText-long : (b c : ℕ) (t : List ℕ) → HasText (b ∷ c ∷ t)
HasText-long b c t =
    let most = length_cond (nat_lt 0 (length (b ∷ c ∷ t)) && eqb (last_of (b ∷ c ∷ t)) 13) (b ∷ c ∷ t) in
    rw (without_lf (b ∷ c ∷ t)) (grind (arith, most))

pub HasText-one : (b : ℕ) → eqb b 13 ≡ false → HasText (b ∷ [])
HasText-one b h = rw h refl

-- the first line of a header, where it has text
pub header_of-line : (t r : List ℕ) → NoEnd t → HasText t → header_of (t ++ 10 ∷ r) ≡ (t ++ 10 ∷ []) ∷ header_of r
unfolding header_lines
header_of-line t r h k = rw (raw_lines_whole t r h, k) refl

pub NoEnd-get : (t : List ℕ) (k : ℕ) → NoEnd t → eqb (get_or t k 0) 10 ≡ false
NoEnd-get [] k h = refl
NoEnd-get (b ∷ t) zero h = h.0
NoEnd-get (b ∷ t) (suc k) h = NoEnd-get t k h.1

without_end-open : (t : List ℕ) → NoEnd t → without_end t ≡ t
without_end-open t h = rw (NoEnd-get t (length t - 1) h, and-false (nat_lt 0 (length t))) refl

pub header_of-open : (t : List ℕ) → NoEnd t → concat (header_of t) ≡ t
unfolding header_lines raw_lines
header_of-open [] h = refl
header_of-open (b ∷ t) h = let some : nat_lt 0 (length (b ∷ t)) ≡ true = grind arith in
    rw (raw_lines_open b t h, without_end-open (b ∷ t) h, some) (append-nil (b ∷ t))

pub header_of-lf : (r : List ℕ) → header_of (10 ∷ r) ≡ []
unfolding header_lines raw_lines
header_of-lf r = refl

pub header_of-crlf : (r : List ℕ) → header_of (13 ∷ 10 ∷ r) ≡ []
unfolding header_lines raw_lines
header_of-crlf r = refl

pub concat-append : (xs ys : List (List ℕ)) → concat (xs ++ ys) ≡ concat xs ++ concat ys
concat-append [] ys = refl
concat-append (x ∷ xs) ys = rw (concat-append xs ys) (sym (append_assoc x (concat xs) (concat ys)))

-- a text is cut into whole lines with text, which belong to the header, and a rest that has no line end or begins with
-- an empty line
pub data Rest (bs : List ℕ) : Type 0 where
  unended : NoEnd bs → Rest bs
  lf : (r : List ℕ) → bs ≡ 10 ∷ r → Rest bs
  crlf : (r : List ℕ) → bs ≡ 13 ∷ 10 ∷ r → Rest bs

pub record Cut (bs : List ℕ) : Type 0 where
  pub lead : List ℕ
  pub rest : List ℕ
  pub joined : bs ≡ lead ++ rest
  pub lines : (q : List ℕ) → header_of (lead ++ q) ≡ header_of lead ++ header_of q
  pub octets : concat (header_of lead) ≡ lead
  pub line_start : (lead ≡ []) ⊎ ((front : List ℕ) × (lead ≡ front ++ 10 ∷ []))
  pub state : Rest rest

cut_none : (bs : List ℕ) → Rest bs → Cut bs
unfolding header_lines raw_lines
cut_none bs state = record {
  lead = [];
  rest = bs;
  joined = refl;
  lines = λ q. refl;
  octets = refl;
  line_start = inl refl;
  state = state;
}

ends_line : (t lead : List ℕ) → (lead ≡ []) ⊎ ((front : List ℕ) × (lead ≡ front ++ 10 ∷ []))
    → (t ++ 10 ∷ lead ≡ []) ⊎ ((front : List ℕ) × (t ++ 10 ∷ lead ≡ front ++ 10 ∷ []))
ends_line t lead (inl e) = inr (t, rw e refl)
ends_line t lead (inr e) = inr (t ++ 10 ∷ e.0, ap (λ xs. t ++ 10 ∷ xs) e.1 ∙ sym (append_assoc t (10 ∷ e.0) (10 ∷ [])))

-- a line with text before the rest
cut_more : (bs t r : List ℕ) → bs ≡ t ++ 10 ∷ r → NoEnd t → HasText t → Cut r → Cut bs
cut_more bs t r e h k c =
    let first : (q : List ℕ) → (t ++ 10 ∷ c.lead) ++ q ≡ t ++ 10 ∷ (c.lead ++ q) = λ q. append_assoc t (10 ∷ c.lead) q in
    let front : (t ++ 10 ∷ []) ++ c.lead ≡ t ++ 10 ∷ c.lead = append_assoc t (10 ∷ []) c.lead in
    record {
      lead = t ++ 10 ∷ c.lead;
      rest = c.rest;
      joined = e ∙ ap (λ xs. t ++ 10 ∷ xs) c.joined ∙ sym (first c.rest);
      lines = λ q. ap header_of (first q) ∙ header_of-line t (c.lead ++ q) h k
          ∙ ap (λ x. (t ++ 10 ∷ []) ∷ x) (c.lines q) ∙ ap (λ x. x ++ header_of q) (sym (header_of-line t c.lead h k));
      octets = ap concat (header_of-line t c.lead h k) ∙ ap (λ x. (t ++ 10 ∷ []) ++ x) c.octets ∙ front;
      line_start = ends_line t c.lead c.line_start;
      state = c.state;
    }

abbrev Shorter : ℕ → Type 0
Shorter n = (r : List ℕ) → length r ≤ n → Cut r

cut_text : (n : ℕ) → Shorter n → (bs t r : List ℕ) → bs ≡ t ++ 10 ∷ r → NoEnd t → HasText t → length bs ≤ suc n → Cut bs
cut_text n more bs t r e k text h = cut_more bs t r e k text (more r (omega (arith, length-append t (10 ∷ r), ap length e)))

cut_one : (n : ℕ) → Shorter n → (bs : List ℕ) (b : ℕ) (r : List ℕ) (t : Bool) → eqb b 13 ≡ t → bs ≡ b ∷ 10 ∷ r
    → NoEnd (b ∷ []) → length bs ≤ suc n → Cut bs
cut_one n more bs b r true e f k h = cut_none bs (crlf r (f ∙ ap (λ x. x ∷ 10 ∷ r) (eqb-true b 13 e)))
cut_one n more bs b r false e f k h = cut_text n more bs (b ∷ []) r f k (HasText-one b e) h

cut_line : (n : ℕ) → Shorter n → (bs : List ℕ) → NoEnd bs ⊎ Whole bs → length bs ≤ suc n → Cut bs
cut_line n more bs (inl k) h = cut_none bs (unended k)
cut_line n more bs (inr ([], r, e, k)) h = cut_none bs (lf r e)
cut_line n more bs (inr (b ∷ [], r, e, k)) h = cut_one n more bs b r (eqb b 13) refl e k h
cut_line n more bs (inr (b ∷ c ∷ t, r, e, k)) h = cut_text n more bs (b ∷ c ∷ t) r e k (HasText-long b c t) h

pub cut : (n : ℕ) (bs : List ℕ) → length bs ≤ n → Cut bs
cut zero [] h = cut_none [] (unended tt)
cut zero (b ∷ bs) h = absurd (omega arith)
cut (suc n) bs h = cut_line n (λ r k. cut n r k) bs (first_line bs) h
