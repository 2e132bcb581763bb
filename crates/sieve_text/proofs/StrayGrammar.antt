-- The first stray octet of a script.
use Rattle.std.proofs.Common.{◌≡◌, ℕ, suc, ◌+◌, ◌<◌, true, false, List, [], ◌∷◌, ◌++◌, length, refl, ap, ◌∙◌, arith, inl, inr, length-append}
use Rattle.std.specs.Prelude.{◌==◌, ◌&&◌, not}
use Rattle.std.proofs.lemmas.Bool.{both_ways, cases_Bool, eqb-true, and_parts, or_cases, not-true}
use Rattle.std.proofs.lemmas.List.{append-nil}
use Rattle.sieve_text.specs.Octets.{begins_with, is_stray, stray_len}
use Rattle.sieve_text.specs.FaultGrammar.{IsStray, IsClean, clean_end, clean_octet, IsStrayAt}

stray_is : (b : ℕ) (bs : List ℕ) → is_stray b bs ≡ true → IsStray b bs
stray_is b bs h = elim (or_cases (b == 0) ((b == 13) && not (begins_with 10 bs)) h) [
  | inl e ↦ inl (eqb-true b 0 e)
  | inr e ↦ (let p = and_parts (b == 13) (not (begins_with 10 bs)) e in inr (eqb-true b 13 p.0, not-true (begins_with 10 bs) p.1))
]

stray_told : (b : ℕ) (bs : List ℕ) → IsStray b bs → is_stray b bs ≡ true
stray_told b bs (inl e) = rw e refl
stray_told b bs (inr e) = rw (e.0, e.1) refl

stray_here : (b : ℕ) (bs : List ℕ) → is_stray b bs ≡ true → stray_len (b ∷ bs) ≡ 0
unfolding stray_len
stray_here b bs h = rw h refl

stray_later : (b : ℕ) (bs : List ℕ) → is_stray b bs ≡ false → stray_len (b ∷ bs) ≡ suc (stray_len bs)
unfolding stray_len
stray_later b bs h = rw h refl

not_stray : (b : ℕ) (bs : List ℕ) → (IsStray b bs → ⊥) → is_stray b bs ≡ false
not_stray b bs none = elim (cases_Bool (is_stray b bs)) [
  | inl e ↦ absurd (none (stray_is b bs e))
  | inr e ↦ e
]

pub clean_long : (bs following : List ℕ) → IsClean bs following → stray_len (bs ++ following) ≡ length bs + stray_len following
clean_long _ _ (clean_end following) = omega arith
clean_long _ _ (clean_octet b bs following none c) =
    let s = stray_later b (bs ++ following) (not_stray b (bs ++ following) none) in
    let r = clean_long bs following c in
    omega arith

no_stray : (b : ℕ) (bs : List ℕ) → is_stray b bs ≡ false → IsStray b bs → ⊥
no_stray b bs e h = both_ways (is_stray b bs) e (stray_told b bs h)

nothing_stray : stray_len [] ≡ 0
unfolding stray_len
nothing_stray = refl

pub clean_whole : (bs : List ℕ) → stray_len bs ≡ length bs → IsClean bs []
clean_whole [] h = clean_end []
clean_whole (b ∷ bs) h = elim (cases_Bool (is_stray b bs)) [
  | inl e ↦ (let s = stray_here b bs e in absurd (omega arith))
  | inr e ↦ (let s = stray_later b bs e in clean_octet b bs [] (rw append-nil (no_stray b bs e)) (clean_whole bs (omega arith)))
]

pub whole_clean : (bs : List ℕ) → IsClean bs [] → stray_len bs ≡ length bs
whole_clean bs c =
    let l = clean_long bs [] c in
    let e = ap stray_len (append-nil bs) in
    let n = nothing_stray in
    omega arith

pub stray_at : (bs : List ℕ) → stray_len bs < length bs → IsStrayAt bs (stray_len bs)
stray_at [] h = absurd (omega arith)
stray_at (b ∷ bs) h = elim (cases_Bool (is_stray b bs)) [
  | inl e ↦ record {
    front = [];
    octet = b;
    following = bs;
    cut = refl;
    clean = clean_end (b ∷ bs);
    stray =
        stray_is b bs e;
    place_is = stray_here b bs e;
  }
  | inr e ↦ (
      let s = stray_later b bs e in
      let r = stray_at bs (omega arith) in
      record {
        front = b ∷ r.front;
        octet = r.octet;
        following = r.following;
        cut = ap (λ (cs : List ℕ). b ∷ cs) r.cut;
        clean = clean_octet b r.front (r.octet ∷ r.following) (rw (← r.cut) (no_stray b bs e)) r.clean;
        stray = r.stray;
        place_is = s ∙ ap suc r.place_is;
      })
]

pub at_stray : (bs : List ℕ) (place : ℕ) → IsStrayAt bs place → (stray_len bs < length bs) × (place ≡ stray_len bs)
at_stray bs place h =
    let l = clean_long h.front (h.octet ∷ h.following) h.clean in
    let s = stray_here h.octet h.following (stray_told h.octet h.following h.stray) in
    let e = ap stray_len h.cut in
    let m = ap length h.cut in
    let n = length-append h.front (h.octet ∷ h.following) in
    let p = h.place_is in
    (omega arith, omega arith)
