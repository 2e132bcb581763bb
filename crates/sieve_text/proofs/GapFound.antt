-- A gap by the grammar is as long as the gap that is read, if no more of it follows.
use Rattle.std.proofs.Common.{◌≡◌, ℕ, suc, ◌+◌, ◌-◌, ◌<◌, Bool, true, false, List, [], ◌∷◌, ◌++◌, length, drop, refl}
use Rattle.std.proofs.Common.{sym, ap, ◌∙◌, arith, inl, inr, length-append, append_assoc}
use Rattle.std.specs.Prelude.{◌==◌, ◌&&◌, ◌||◌}
use Rattle.std.specs.List.{prefix_len, list_all}
use Rattle.std.proofs.lemmas.Bool.{true≢false, cases_Bool, eqb-true, lt-ltb, and_parts}
use Rattle.std.proofs.Math.Seq.{drop-append_seam}
use Rattle.sieve_text.specs.Octets.{is_white, not_lf, begins, begins_with}
use Rattle.sieve_text.specs.Gaps.{bracketed_len, comment_len, gap_len}
use Rattle.sieve_text.specs.TokenGrammar.{closes, Gap, gap_end, gap_white, gap_hash, gap_bracketed}
use Rattle.sieve_text.proofs.GapLemmas.{gap_comment}
use Rattle.sieve_text.proofs.GapGrammar.{before, white_more}

pub exactly : (p : ℕ → Bool) (xs ys : List ℕ) → list_all p xs ≡ true → begins p ys ≡ false → prefix_len p (xs ++ ys) ≡ length xs
exactly p [] [] h n = refl
exactly p [] (y ∷ ys) h n = rw n refl
exactly p (x ∷ xs) ys h n =
    let t = and_parts (p x) (list_all p xs) h in
    let r = exactly p xs ys t.1 n in
    rw t.0 (omega arith)

-- the octets of a comment, and the rest after it
after_comment : (comment following : List ℕ) → begins is_white (comment ++ following) ≡ false
    → comment_len (comment ++ following) ≡ length comment → 0 < length comment
    → gap_len 0 (comment ++ following) ≡ length comment + gap_len 0 following
after_comment comment following white long some =
    let l = length-append comment following in
    let g = gap_comment (comment ++ following) white (omega arith) (omega arith) in
    let d : drop (comment_len (comment ++ following)) (comment ++ following) ≡ following =
    ap (λ n. drop n (comment ++ following)) long ∙ drop-append_seam comment following in
    let e = ap (λ cs. gap_len 0 cs) d in
    omega arith

hash_long : (text following : List ℕ) → list_all not_lf text ≡ true → begins not_lf following ≡ false
    → comment_len (35 ∷ (text ++ following)) ≡ suc (length text)
unfolding comment_len
hash_long text following all stops = let e = exactly not_lf text following all stops in omega arith

-- a text without "*/" has none after its first octet either
pub closes_rest : (b : ℕ) (bs : List ℕ) → closes (b ∷ bs) ≡ false → closes bs ≡ false
closes_rest b bs h = elim (cases_Bool (closes bs)) [
  | inl e ↦ absurd (true≢false (or_right ((b == 42) && begins_with 47 bs) (closes bs) e h))
  | inr e ↦ e
]
  where
    or_right : (x y : Bool) → y ≡ true → (x || y) ≡ false → true ≡ false
    or_right true y e h = h
    or_right false y e h = sym e ∙ h

pub closes_after : (b : ℕ) (bs : List ℕ) → closes (b ∷ bs) ≡ false → closes (before (b == 42) bs) ≡ false
closes_after b bs h = elim (cases_Bool (b == 42)) [
  | inl e ↦ rw e (rw (eqb-true b 42 e) at h)
  | inr e ↦ rw e (closes_rest b bs h)
]

bracketed_found : (after_star : Bool) (text following : List ℕ) → closes (before after_star (text ++ 42 ∷ [])) ≡ false
    → bracketed_len after_star (text ++ 42 ∷ 47 ∷ following) ≡ suc (length text)
unfolding bracketed_len
bracketed_found true [] following h = refl
bracketed_found false [] following h = refl
bracketed_found true (b ∷ text) following h = elim (cases_Bool (b == 47)) [
  | inl e ↦ absurd (true≢false (rw e at h))
  | inr e ↦ rw e (ap suc (bracketed_found (b == 42) text following (closes_after b (text ++ 42 ∷ []) (closes_rest 42 (b ∷ (text ++ 42 ∷ [])) h))))
]
bracketed_found false (b ∷ text) following h = ap suc (bracketed_found (b == 42) text following (closes_after b (text ++ 42 ∷ []) h))

bracketed_long : (text following : List ℕ) → closes (text ++ 42 ∷ []) ≡ false
    → comment_len (47 ∷ 42 ∷ (text ++ 42 ∷ 47 ∷ following)) ≡ length text + 4
unfolding comment_len
bracketed_long text following h =
    let n = bracketed_found false text following h in
    let l = length-append text (42 ∷ 47 ∷ following) in
    let t = lt-ltb (bracketed_len false (text ++ 42 ∷ 47 ∷ following)) (length (text ++ 42 ∷ 47 ∷ following)) (omega arith) in
    rw t (omega arith)

pub gap_found : (gap following : List ℕ) → Gap gap following → gap_len 0 following ≡ 0 → gap_len 0 (gap ++ following) ≡ length gap
gap_found _ _ (gap_end following) h = h
gap_found _ _ (gap_white b bs following w g) h = white_more b (bs ++ following) w ∙ ap suc (gap_found bs following g h)
gap_found _ _ (gap_hash text bs following all stops g) h =
    let comment : List ℕ = 35 ∷ text in
    let r = gap_found bs following g h in
    let a = after_comment comment (bs ++ following) refl (hash_long text (bs ++ following) all stops) (omega arith) in
    let l = length-append text bs in
    rw append_assoc (omega arith)
gap_found _ _ (gap_bracketed text bs following c g) h =
    let comment : List ℕ = 47 ∷ 42 ∷ (text ++ 42 ∷ 47 ∷ []) in
    let r = gap_found bs following g h in
    let joined : text ++ (42 ∷ 47 ∷ (bs ++ following)) ≡ (text ++ 42 ∷ 47 ∷ [])
    ++ (bs ++ following) = sym (append_assoc text (42 ∷ 47 ∷ []) (bs ++ following)) in
    let long : comment_len (comment ++ (bs ++ following)) ≡ length comment =
    ap (λ cs. comment_len (47 ∷ 42 ∷ cs)) (sym joined) ∙ bracketed_long text (bs ++ following) c ∙ four text in
    let a = after_comment comment (bs ++ following) refl long (omega arith) in
    let w : gap_len 0 ((47 ∷ 42 ∷ (text ++ 42 ∷ 47 ∷ bs)) ++ following) ≡ gap_len 0 (comment ++ (bs ++ following)) =
    ap (λ cs. gap_len 0 (47 ∷ 42 ∷ cs)) (append_assoc text (42 ∷ 47 ∷ bs) following ∙ joined) in
    let l = length-append text (42 ∷ 47 ∷ bs) in
    let m = length-append text (42 ∷ 47 ∷ []) in
    omega arith
  where
    four : (text : List ℕ) → length text + 4 ≡ length (47 ∷ 42 ∷ (text ++ 42 ∷ 47 ∷ []))
    four text = let l = length-append text (42 ∷ 47 ∷ []) in omega arith
