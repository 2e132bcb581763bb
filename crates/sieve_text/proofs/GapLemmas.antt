-- A gap is cut into white space and comments.
use Rattle.std.proofs.Common.{◌≡◌, ℕ, zero, suc, ◌+◌, ◌-◌, ◌<◌, ◌≤◌, true, false, List, [], ◌∷◌, length, drop, nat_lt, refl, ap, arith, inl, inr}
use Rattle.std.specs.List.{prefix_len}
use Rattle.std.proofs.lemmas.Grind.{common_steps}
use Rattle.std.proofs.lemmas.Bool.{cases_Bool, lt-ltb}
use Rattle.sieve_text.specs.Octets.{is_white, begins}
use Rattle.sieve_text.specs.Gaps.{comment_len, gap_len}

pub drop_more : (m n : ℕ) (bs : List ℕ) → drop (m + n) bs ≡ drop n (drop m bs)
drop_more zero n bs = ap (λ k. drop k bs) (omega arith)
drop_more (suc m) n [] = grind (arith, common_steps)
drop_more (suc m) n (b ∷ bs) = let e : suc m + n ≡ suc (m + n) = omega arith in rw e (drop_more m n bs)

-- the octets of a comment
pub gap_inside : (n : ℕ) (bs : List ℕ) → n ≤ length bs → gap_len n bs ≡ n + gap_len 0 (drop n bs)
unfolding gap_len
gap_inside zero bs h = omega arith
gap_inside (suc n) [] h = absurd (omega arith)
gap_inside (suc n) (b ∷ bs) h = let r = gap_inside n bs (omega arith) in omega arith

-- white space
pub gap_white : (bs : List ℕ) → gap_len 0 bs ≡ prefix_len is_white bs + gap_len 0 (drop (prefix_len is_white bs) bs)
unfolding gap_len
gap_white [] = omega arith
gap_white (b ∷ bs) = elim (cases_Bool (is_white b)) [
  | inl h ↦ (let r = gap_white bs in let e : 1 + prefix_len is_white bs ≡ suc (prefix_len is_white bs) = omega arith in rw (h, e) (omega arith))
  | inr h ↦ (let p : prefix_len is_white (b ∷ bs) ≡ 0 = rw h refl in rw p (omega arith))
]

-- no white space comes after all of it
pub white_ends : (bs : List ℕ) → begins is_white (drop (prefix_len is_white bs) bs) ≡ false
white_ends [] = refl
white_ends (b ∷ bs) = elim (cases_Bool (is_white b)) [
  | inl h ↦ (let e : 1 + prefix_len is_white bs ≡ suc (prefix_len is_white bs) = omega arith in rw (h, e) (white_ends bs))
  | inr h ↦ rw h h
]

pub gap_none : (bs : List ℕ) → begins is_white bs ≡ false → comment_len bs ≡ 0 → gap_len 0 bs ≡ 0
unfolding gap_len
gap_none [] h e = refl
gap_none (b ∷ bs) h e = rw (h, e) refl

opened : (b : ℕ) (bs : List ℕ) → is_white b ≡ false → nat_lt 0 (comment_len (b ∷ bs)) ≡ true
    → gap_len 0 (b ∷ bs) ≡ suc (gap_len (comment_len (b ∷ bs) - 1) bs)
unfolding gap_len
opened b bs h t = rw (h, t) refl

after_first : (n : ℕ) (b : ℕ) (bs : List ℕ) → 0 < n → drop n (b ∷ bs) ≡ drop (n - 1) bs
after_first zero b bs some = absurd (omega arith)
after_first (suc n) b bs some = ap (λ k. drop k bs) (omega arith)

pub gap_nothing : (bs : List ℕ) → bs ≡ [] → gap_len 0 bs ≡ 0
unfolding gap_len
gap_nothing bs e = rw e refl

no_comment : 0 < comment_len [] → ⊥
unfolding comment_len
no_comment h = omega arith

-- a comment
pub gap_comment : (bs : List ℕ) → begins is_white bs ≡ false → 0 < comment_len bs → comment_len bs ≤ length bs
    → gap_len 0 bs ≡ comment_len bs + gap_len 0 (drop (comment_len bs) bs)
gap_comment [] h some within = absurd (no_comment some)
gap_comment (b ∷ bs) h some within =
    let t = lt-ltb 0 (comment_len (b ∷ bs)) some in
    let e = opened b bs h t in
    let i = gap_inside (comment_len (b ∷ bs) - 1) bs (omega arith) in
    let d = after_first (comment_len (b ∷ bs)) b bs some in
    rw d (omega arith)

-- and the gap ends if no comment follows the white space
pub gap_last : (bs : List ℕ) (white : ℕ) → white ≡ prefix_len is_white bs → comment_len (drop white bs) ≡ 0 → gap_len 0 bs ≡ white
gap_last bs white w c =
    let g = gap_white bs in
    let n = gap_none (drop (prefix_len is_white bs) bs) (white_ends bs) (rw w at c) in
    omega arith

-- white space and a comment at the front of a gap
pub gap_piece : (bs : List ℕ) (white comment : ℕ) → white ≡ prefix_len is_white bs
    → comment ≡ comment_len (drop white bs) → 0 < comment → comment ≤ length (drop white bs)
    → gap_len 0 bs ≡ (white + comment) + gap_len 0 (drop (white + comment) bs)
gap_piece bs white comment w c some within =
    let g = rw (← w) at (gap_white bs) in
    let h = rw (← w) at (white_ends bs) in
    let d = drop_more white comment bs in
    let s : 0 < comment_len (drop white bs) = omega arith in
    let m : comment_len (drop white bs) ≤ length (drop white bs) = omega arith in
    let k = rw (← c) at (gap_comment (drop white bs) h s m) in
    rw d (omega arith)
