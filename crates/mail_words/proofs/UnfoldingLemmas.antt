-- Unfolding, one line after another.
use Rattle.std.proofs.Common.{◌≡◌, ◌≢◌, ℕ, zero, suc, ◌-◌, ◌<◌, Bool, true, false, cond, eqb, List, [], ◌∷◌, ◌++◌, length, take, drop, refl, sym, ap}
use Rattle.std.proofs.Common.{get_or, append_assoc, Some, None, ◌∙◌, arith, ne_eqb, eqb-true, eq-eqb}
use Rattle.std.proofs.Math.Bool.{and-true, and-false}
use Rattle.std.specs.Prelude.{nat_lt}
use Rattle.memchr.specs.Find.{IsFirstByte, is_byte}
use Rattle.mail_words.specs.Unfolding.{without_cr, without_line_ends}

push_cond : (t : Bool) (b : ℕ) (xs ys : List ℕ) → cond t (b ∷ xs) (b ∷ ys) ≡ b ∷ cond t xs ys
push_cond true b xs ys = refl
push_cond false b xs ys = refl

-- a CR is removed only at the end
pub without_cr-cons : (b c : ℕ) (cs : List ℕ) → without_cr (b ∷ c ∷ cs) ≡ b ∷ without_cr (c ∷ cs)
without_cr-cons b c cs =
    let one : suc (suc (length cs)) - 1 ≡ suc (length cs) = omega arith in
    let two : suc (length cs) - 1 ≡ length cs = omega arith in
    let some_one : nat_lt 0 (suc (suc (length cs))) ≡ true = grind arith in
    let some_two : nat_lt 0 (suc (length cs)) ≡ true = grind arith in
    rw (one, two, some_one, some_two) (push_cond _ b _ _)

-- a CR that is kept, or another octet
unfolded-kept : (b c : ℕ) (cs : List ℕ) → eqb b 10 ≡ false → eqb c 10 ≡ false → without_line_ends (b ∷ c ∷ cs) ≡ b ∷ without_line_ends (c ∷ cs)
unfolding without_line_ends
unfolded-kept b c cs e f = rw (e, f, and-false (eqb b 13)) refl

pub before_lf : (t : Bool) (b : ℕ) (rest : List ℕ) → cond t rest (b ∷ rest) ≡ cond t [] (b ∷ []) ++ rest
before_lf true b rest = refl
before_lf false b rest = refl

-- one line, which ends at the LF at k
unfolded_at : (bs : List ℕ) (k : ℕ) → k < length bs → get_or bs k 0 ≡ 10 → ((j : ℕ) → j < k → get_or bs j 0 ≢ 10)
    → without_line_ends bs ≡ without_cr (take k bs) ++ without_line_ends (drop 1 (drop k bs))
unfolding without_line_ends
unfolded_at [] k h at before = absurd (omega arith)
unfolded_at (b ∷ bs) zero h at before = rw at refl
unfolded_at (b ∷ []) (suc k) h at before = absurd (omega arith)
unfolded_at (b ∷ c ∷ cs) (suc zero) h at before =
    let other : eqb b 10 ≡ false = ne_eqb b 10 (before 0 (omega arith)) in
    rw (other, at, and-true (eqb b 13)) (before_lf (eqb b 13) b (without_line_ends cs))
unfolded_at (b ∷ c ∷ cs) (suc (suc k)) h at before =
    let other : eqb b 10 ≡ false = ne_eqb b 10 (before 0 (omega arith)) in
    let second : eqb c 10 ≡ false = ne_eqb c 10 (before 1 (omega arith)) in
    let rest : without_line_ends (c ∷ cs) ≡ without_cr (take (suc k) (c ∷ cs))
    ++ without_line_ends (drop 1 (drop (suc k) (c ∷ cs))) =
    unfolded_at (c ∷ cs) (suc k) (omega arith) at (λ j below. before (suc j) (omega arith)) in
    unfolded-kept b c cs other second ∙ ap (λ xs. b ∷ xs) rest
    ∙ ap (λ xs. xs ++ without_line_ends (drop 1 (drop k cs))) (sym (without_cr-cons b c (take k cs)))

-- no line end
unfolded_none : (bs : List ℕ) → ((j : ℕ) → j < length bs → get_or bs j 0 ≢ 10) → without_line_ends bs ≡ bs
unfolding without_line_ends
unfolded_none [] before = refl
unfolded_none (b ∷ []) before = rw (ne_eqb b 10 (before 0 (omega arith)), and-false (eqb b 13)) refl
unfolded_none (b ∷ c ∷ cs) before =
    let rest : without_line_ends (c ∷ cs) ≡ c ∷ cs = unfolded_none (c ∷ cs) (λ j below. before (suc j) (omega arith)) in
    unfolded-kept b c cs (ne_eqb b 10 (before 0 (omega arith))) (ne_eqb c 10 (before 1 (omega arith))) ∙ ap (λ xs. b ∷ xs) rest

pub unfolded_line : (bs : List ℕ) (k : ℕ) → IsFirstByte (is_byte 10) bs (Some k)
    → without_line_ends bs ≡ without_cr (take k bs) ++ without_line_ends (drop 1 (drop k bs))
unfolded_line bs k (first, at) = unfolded_at bs k first.high (eqb-true (get_or bs k 0) 10 at) (λ j below same.
    first.before j (omega arith) below (eq-eqb (get_or bs j 0) 10 same))

pub unfolded_last : (bs : List ℕ) → IsFirstByte (is_byte 10) bs None → without_line_ends bs ≡ bs
unfolded_last bs none = unfolded_none bs (λ j below same. none j (omega arith) below (eq-eqb (get_or bs j 0) 10 same))

pub unfolded-more : (before : List ℕ) (bs text end after : List ℕ) (k : ℕ) (all : List ℕ)
    → IsFirstByte (is_byte 10) bs (Some k) → text ≡ without_cr (take k bs) → after ≡ drop 1 (drop k bs) → before
    ++ without_line_ends bs ≡ all → (before ++ text) ++ without_line_ends after ≡ all
unfolded-more before bs text end after k all found et ea h =
    rw (et, ea, append_assoc, ← unfolded_line bs k found) h
