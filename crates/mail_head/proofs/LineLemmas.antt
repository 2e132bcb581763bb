-- The first line of a text, and what follows it.
use Rattle.std.proofs.Common.{◌≡◌, ◌≢◌, ℕ, zero, suc, ◌+◌, ◌-◌, ◌<◌, ◌≤◌, Bool, true, false, cond, eqb, List, [], ◌∷◌, ◌++◌, length, take, drop, refl}
use Rattle.std.proofs.Common.{sym, get_or, drop-cons, Some, None, ◌∙◌, ◌⊎◌, inl, inr, arith, ne_eqb, eqb-true, eq-eqb}
use Rattle.std.proofs.Math.Seq.{take-add, take-length}
use Rattle.std.proofs.lemmas.List.{drop_all, length-drop, drop-drop}
use Rattle.std.specs.Prelude.{nat_lt, IsTrue}
use Rattle.memchr.specs.Find.{IsFirstByte, is_byte}
use Rattle.mail_head.specs.Lines.{into_first, raw_lines, line_len, without_last, without_end, header_lines, header_of}
use Rattle.mail_head.specs.Lines.{logical_from, logical_lines, begins_blank, is_blank}

-- the first line ends after the first LF
pub line_len_at : (bs : List ℕ) (k : ℕ) → k < length bs → get_or bs k 0 ≡ 10 → ((j : ℕ) → j < k → get_or bs j 0 ≢ 10) → line_len bs ≡ k + 1
unfolding line_len
line_len_at [] k h at before = absurd (omega arith)
line_len_at (b ∷ bs) zero h at before = rw at refl
line_len_at (b ∷ bs) (suc k) h at before =
    let rest : line_len bs ≡ k + 1 = line_len_at bs k (omega arith) at (λ j below. before (suc j) (omega arith)) in
    let other : eqb b 10 ≡ false = ne_eqb b 10 (before 0 (omega arith)) in
    rw (other, rest) (omega arith)

-- without an LF it ends with the text
pub line_len_none : (bs : List ℕ) → ((j : ℕ) → j < length bs → get_or bs j 0 ≢ 10) → line_len bs ≡ length bs
unfolding line_len
line_len_none [] before = refl
line_len_none (b ∷ bs) before =
    let rest : line_len bs ≡ length bs = line_len_none bs (λ j below. before (suc j) (omega arith)) in
    let other : eqb b 10 ≡ false = ne_eqb b 10 (before 0 (omega arith)) in
    rw (other, rest) refl

-- what a search for an LF says about the first line
pub line_len_found : (bs : List ℕ) (k : ℕ) → IsFirstByte (is_byte 10) bs (Some k) → k + 1 ≡ line_len bs
line_len_found bs k (first, at) =
    sym (line_len_at bs k first.high (eqb-true (get_or bs k 0) 10 at) (λ j below same.
    first.before j (omega arith) below (eq-eqb (get_or bs j 0) 10 same)))

pub line_len_unfound : (bs : List ℕ) → IsFirstByte (is_byte 10) bs None → length bs ≡ line_len bs
line_len_unfound bs none = sym (line_len_none bs (λ j below same. none j (omega arith) below (eq-eqb (get_or bs j 0) 10 same)))

lines_at : (t : Bool) (b : ℕ) (bs : List ℕ)
    → (bs ≡ []) ⊎ (raw_lines bs ≡ take (line_len bs) bs ∷ raw_lines (drop (line_len bs) bs))
    → cond t ((b ∷ []) ∷ raw_lines bs) (into_first b (raw_lines bs)) ≡ take (cond t 1 (suc (line_len bs))) (b ∷ bs)
    ∷ raw_lines (drop (cond t 1 (suc (line_len bs))) (b ∷ bs))
unfolding raw_lines line_len
lines_at true b bs h = refl
lines_at false b bs (inl e) = rw e refl
lines_at false b bs (inr e) = rw e refl

pub raw_lines_first : (b : ℕ) (bs : List ℕ) → raw_lines (b ∷ bs) ≡ take (line_len (b ∷ bs)) (b ∷ bs) ∷ raw_lines (drop (line_len (b ∷ bs)) (b ∷ bs))
unfolding raw_lines line_len
raw_lines_first b [] = lines_at (eqb b 10) b [] (inl refl)
raw_lines_first b (c ∷ cs) = lines_at (eqb b 10) b (c ∷ cs) (inr (raw_lines_first c cs))

-- one step of the header
header_step : (t : Bool) (l : List ℕ) (ls rest : List (List ℕ)) → ((t ≡ true → cond t (l ∷ ls) [] ≡ l ∷ ls) × (t ≡ false → cond t (l ∷ ls) [] ≡ []))
header_step true l ls rest = (λ h. refl, λ h. absurd cc)
header_step false l ls rest = (λ h. absurd cc, λ h. refl)

-- a header's first line
pub header_of-some : (bs : List ℕ) → nat_lt 0 (length (without_end (take (line_len bs) bs))) ≡ true
    → header_of bs ≡ take (line_len bs) bs ∷ header_of (drop (line_len bs) bs)
unfolding header_lines line_len
header_of-some [] h = absurd cc
header_of-some (b ∷ bs) h = rw (raw_lines_first b bs) ((header_step _ _ _ []).0 h)

pub header_of-none : (bs : List ℕ) → nat_lt 0 (length (without_end (take (line_len bs) bs))) ≡ false → header_of bs ≡ []
unfolding header_lines raw_lines
header_of-none [] h = refl
header_of-none (b ∷ bs) h = rw (raw_lines_first b bs) ((header_step _ _ _ []).1 h)

-- what a test of the first line says about the header
pub record HeaderSays (bs : List ℕ) (over : Bool) : Type 0 where
  pub ends : IsTrue over → header_of bs ≡ []
  pub goes_on : over ≡ false → header_of bs ≡ take (line_len bs) bs ∷ header_of (drop (line_len bs) bs)

empty_test : (n : ℕ) (r : Bool) → r ≡ eqb n 0 → (IsTrue r → nat_lt 0 n ≡ false) × (r ≡ false → nat_lt 0 n ≡ true)
empty_test n r e = (λ h. grind arith, λ h. grind arith)

pub header_says : (bs text : List ℕ) (n : ℕ) (r : Bool) → n ≡ line_len bs → text ≡ without_end (take n bs) → r ≡ eqb (length text) 0 → HeaderSays bs r
header_says bs text n r en et er =
    let same : text ≡ without_end (take (line_len bs) bs) = rw (← en) et in
    let test : r ≡ eqb (length (without_end (take (line_len bs) bs))) 0 = rw (← same) er in
    let both = empty_test (length (without_end (take (line_len bs) bs))) r test in
    record { ends = λ h. header_of-none bs (both.0 h); goes_on = λ h. header_of-some bs (both.1 h) }

-- the first n octets of the first logical line
pub record Begun (bs : List ℕ) (n : ℕ) : Type 0 where
  pub some : 0 < n
  pub within : n ≤ length bs
  pub same : logical_lines (header_of bs) ≡ logical_from (take n bs) (header_of (drop n bs))

-- a text that begins with b
abbrev BeginsAt : ℕ → List ℕ → Type 0
BeginsAt b xs = (r : List ℕ) × (xs ≡ b ∷ r)

cut_begins : (t : Bool) (m b : ℕ) (r : List ℕ) → (t ≡ true → 0 < m) → BeginsAt b (cond t (take m (b ∷ r)) (b ∷ r))
cut_begins true zero b r h = absurd (omega (arith, h refl))
cut_begins true (suc m) b r h = (take m r, refl)
cut_begins false m b r h = (r, refl)

without_last_begins : (c b : ℕ) (r : List ℕ) → eqb b c ≡ false → BeginsAt b (without_last c (b ∷ r))
without_last_begins c b [] h = rw h ([], refl)
without_last_begins c b (d ∷ ds) h = cut_begins _ (length (b ∷ d ∷ ds) - 1) b (d ∷ ds) (λ e. omega arith)

choose_begins : (t : Bool) (b : ℕ) (xs ys : List ℕ) → BeginsAt b xs → BeginsAt b ys → BeginsAt b (cond t xs ys)
choose_begins true b xs ys h k = h
choose_begins false b xs ys h k = k

text_begins : (b : ℕ) (r : List ℕ) → eqb b 10 ≡ false → eqb b 13 ≡ false → BeginsAt b (without_end (b ∷ r))
text_begins b r h k =
    let first = without_last_begins 10 b r h in
    let second = without_last_begins 13 b first.0 k in
    choose_begins _ b (without_last 13 (without_last 10 (b ∷ r))) (b ∷ r) (rw first.1 second) (r, refl)

begins_some : (b : ℕ) (xs : List ℕ) → BeginsAt b xs → nat_lt 0 (length xs) ≡ true
begins_some b xs h = rw h.1 (grind arith)

blank_is : (b : ℕ) → is_blank b ≡ true → (eqb b 10 ≡ false) × (eqb b 13 ≡ false)
blank_is b h = (grind arith, grind arith)

-- a line that begins with a blank belongs to the logical line
blank_first : (b : ℕ) (bs : List ℕ) → is_blank b ≡ true → header_of (b ∷ bs) ≡ take (line_len (b ∷ bs)) (b ∷ bs)
    ∷ header_of (drop (line_len (b ∷ bs)) (b ∷ bs))
unfolding line_len
blank_first b bs h =
    let no = blank_is b h in
    header_of-some (b ∷ bs) (rw no.0 (begins_some b _ (text_begins b (take (line_len bs) bs) no.0 no.1)))

begins_take : (t : Bool) (m b : ℕ) (bs : List ℕ) → begins_blank (take (cond t 1 (suc m)) (b ∷ bs)) ≡ is_blank b
begins_take true m b bs = refl
begins_take false m b bs = refl

begins_first : (b : ℕ) (bs : List ℕ) → begins_blank (take (line_len (b ∷ bs)) (b ∷ bs)) ≡ is_blank b
unfolding line_len
begins_first b bs = begins_take (eqb b 10) (line_len bs) b bs

-- the next line belongs to the logical line
continued : (begun : List ℕ) (bs : List ℕ) → begins_blank bs ≡ true
    → logical_from begun (header_of bs) ≡ logical_from (begun
    ++ take (line_len bs) bs) (header_of (drop (line_len bs) bs))
unfolding logical_from
continued begun [] h = absurd cc
continued begun (b ∷ bs) h = rw (blank_first b bs h, begins_first b bs, h) refl

complete_at : (t : Bool) (begun : List ℕ) (b : ℕ) (bs : List ℕ)
    → nat_lt 0 (length (without_end (take (line_len (b ∷ bs)) (b ∷ bs)))) ≡ t → is_blank b ≡ false
    → logical_from begun (header_of (b ∷ bs)) ≡ begun ∷ logical_lines (header_of (b ∷ bs))
unfolding logical_from logical_lines
complete_at true begun b bs e h = rw (header_of-some (b ∷ bs) e, begins_first b bs, h) refl
complete_at false begun b bs e h = rw (header_of-none (b ∷ bs) e) refl

-- no further line belongs to it
complete : (begun : List ℕ) (bs : List ℕ) → begins_blank bs ≡ false → logical_from begun (header_of bs) ≡ begun ∷ logical_lines (header_of bs)
unfolding logical_from logical_lines header_lines raw_lines
complete begun [] h = refl
complete begun (b ∷ bs) h = complete_at _ begun b bs refl h

pub begins_drop : (bs : List ℕ) (n d : ℕ) → n < length bs → begins_blank (drop n bs) ≡ is_blank (get_or bs n d)
begins_drop bs n d h = rw (drop-cons bs n d) refl

pub begins_past : (bs : List ℕ) (n : ℕ) → length bs ≤ n → begins_blank (drop n bs) ≡ false
begins_past bs n h = rw (drop_all n bs h) refl

first_at : (t : Bool) (bs : List ℕ) → nat_lt 0 (length (without_end (take (line_len bs) bs))) ≡ t → header_of bs ≢ []
    → logical_lines (header_of bs) ≡ logical_from (take (line_len bs) bs) (header_of (drop (line_len bs) bs))
unfolding logical_lines
first_at true bs e h = rw (header_of-some bs e) refl
first_at false bs e h = absurd (h (header_of-none bs e))

pub Begun-first : (bs : List ℕ) (n : ℕ) → header_of bs ≢ [] → n ≡ line_len bs → n ≤ length bs → 0 < n → Begun bs n
Begun-first bs n h e w p = record { some = p; within = w; same = rw e (first_at _ bs refl h) }

pub Begun-more : (bs : List ℕ) (n m : ℕ) → Begun bs n → n < length bs → is_blank (get_or bs n 0) ≡ true
    → m ≡ line_len (drop n bs) → m ≤ length (drop n bs) → Begun bs (n + m)
Begun-more bs n m b h k e w =
    let blank : begins_blank (drop n bs) ≡ true = begins_drop bs n 0 h ∙ k in
    record {
      some = omega (arith, b.some);
      within = omega (arith, b.within, w, length-drop n bs);
      same = rw (take-add n m bs, ← (drop-drop m n bs), e) (b.same ∙ continued (take n bs) (drop n bs) blank);
    }

pub Begun-done : (bs : List ℕ) (n : ℕ) → Begun bs n → begins_blank (drop n bs) ≡ false
    → logical_lines (header_of bs) ≡ take n bs ∷ logical_lines (header_of (drop n bs))
Begun-done bs n b h = b.same ∙ complete (take n bs) (drop n bs) h

pub header_some : (bs : List ℕ) → header_of bs ≢ [] → 0 < length bs
unfolding header_lines raw_lines
header_some [] h = absurd (h refl)
header_some (b ∷ bs) h = grind arith

-- `&s[n..]`
pub part_from : (n : ℕ) (bs : List ℕ) → take (length bs - n) (drop n bs) ≡ drop n bs
part_from n bs = rw (← (length-drop n bs)) (take-length (drop n bs))
