-- What comes between tokens is a gap.
use Rattle.std.proofs.Common.{◌≡◌, ℕ, zero, suc, ◌+◌, ◌<◌, Bool, true, false, List, [], ◌∷◌, ◌++◌, length, take, drop}
use Rattle.std.proofs.Common.{nat_lt, refl, sym, ap, subst, ◌∙◌, arith, inl, inr, length-append, append_assoc}
use Rattle.std.specs.Prelude.{◌==◌}
use Rattle.std.specs.List.{prefix_len, list_all}
use Rattle.std.proofs.lemmas.Bool.{false≢true, cases_Bool, cases_lt, eqb-true, ltb-true, and_parts}
use Rattle.std.proofs.lemmas.List.{take-append-drop, length-take-le}
use Rattle.std.proofs.lemmas.List.Sums.{prefix_len-le-length}
use Rattle.std.proofs.Math.Seq.{drop-append_seam}
use Rattle.std.proofs.Math.Nat.{lt_irrefl}
use Rattle.sieve_text.specs.Octets.{is_white, not_lf, begins, begins_with}
use Rattle.sieve_text.specs.Gaps.{bracketed_len, opens_bracketed, closed_len, comment_len, gap_len}
use Rattle.sieve_text.specs.TokenGrammar.{closes, Gap, gap_end, gap_white, gap_hash, gap_bracketed}
use Rattle.sieve_text.proofs.GapLemmas.{gap_none, gap_comment, gap_nothing}

-- the front that passes a test passes it whole, and the rest after it does not begin with a passing octet
pub prefix_passes : (p : ℕ → Bool) (bs : List ℕ) → list_all p (take (prefix_len p bs) bs) ≡ true
prefix_passes p [] = refl
prefix_passes p (b ∷ bs) = elim (cases_Bool (p b)) [
  | inl h ↦ (let e : 1 + prefix_len p bs ≡ suc (prefix_len p bs) = omega arith in rw (h, e, h) (prefix_passes p bs))
  | inr h ↦ rw h refl
]

pub prefix_ends : (p : ℕ → Bool) (bs : List ℕ) → begins p (drop (prefix_len p bs) bs) ≡ false
prefix_ends p [] = refl
prefix_ends p (b ∷ bs) = elim (cases_Bool (p b)) [
  | inl h ↦ (let e : 1 + prefix_len p bs ≡ suc (prefix_len p bs) = omega arith in rw (h, e) (prefix_ends p bs))
  | inr h ↦ rw h h
]

-- after a star, or not
abbrev pub before : Bool → List ℕ → List ℕ
before true bs = 42 ∷ bs
before false bs = bs

pub closes_from_after : (b : ℕ) (bs : List ℕ) → closes (before (b == 42) bs) ≡ false → closes (b ∷ bs) ≡ false
closes_from_after b bs h = elim (cases_Bool (b == 42)) [
  | inl e ↦ rw e (rw e at h)
  | inr e ↦ rw e (rw e at h)
]

-- no "*/" comes before the one that closes a comment
bracketed_closes : (after_star : Bool) (bs : List ℕ) → bracketed_len after_star bs < length bs
    → closes (before after_star (take (bracketed_len after_star bs) bs)) ≡ false
unfolding bracketed_len
bracketed_closes after_star [] h = absurd (omega arith)
bracketed_closes true (b ∷ bs) h = elim (cases_Bool (b == 47)) [
  | inl e ↦ rw e refl
  | inr e ↦ (let r = rw e at h in let c =
      closes_from_after b (take (bracketed_len (b == 42) bs) bs) (bracketed_closes (b == 42) bs (omega arith)) in
      rw (e, e) c)
]
bracketed_closes false (b ∷ bs) h = closes_from_after b (take (bracketed_len (b == 42) bs) bs) (bracketed_closes (b == 42) bs (omega arith))

-- a star comes before the slash
Starred : Bool → List ℕ → Type 0
Starred after_star bs = (text : List ℕ) × (before after_star bs ≡ text ++ 42 ∷ [])

starred_after : (after_star : Bool) (b : ℕ) (bs : List ℕ) → Starred (b == 42) bs → Starred after_star (b ∷ bs)
unfolding Starred
starred_after after_star b bs h = go after_star (elim (cases_Bool (b == 42)) [
  | inl e ↦ (let t = rw e at h in (t.0, ap (λ c. c ∷ bs) (eqb-true b 42 e) ∙ t.1))
  | inr e ↦ (let t = rw e at h in (b ∷ t.0, ap (λ cs. b ∷ cs) t.1))
])
  where
    go : (after_star : Bool) → (text : List ℕ) × (b ∷ bs ≡ text ++ 42 ∷ []) → (text : List ℕ) × (before after_star (b ∷ bs) ≡ text ++ 42 ∷ [])
    go true t = (42 ∷ t.0, ap (λ cs. 42 ∷ cs) t.1)
    go false t = t

bracketed_starred : (after_star : Bool) (bs : List ℕ) → bracketed_len after_star bs < length bs
    → Starred after_star (take (bracketed_len after_star bs) bs)
unfolding Starred bracketed_len
bracketed_starred after_star [] h = absurd (omega arith)
bracketed_starred true (b ∷ bs) h = elim (cases_Bool (b == 47)) [
  | inl e ↦ rw e ([], refl)
  | inr e ↦ (let r = rw e at h in rw e (starred_after true b (take (bracketed_len (b == 42) bs) bs) (bracketed_starred (b == 42) bs (omega arith))))
]
bracketed_starred false (b ∷ bs) h = starred_after false b (take (bracketed_len (b == 42) bs) bs) (bracketed_starred (b == 42) bs (omega arith))

bracketed_slash : (after_star : Bool) (bs : List ℕ) → bracketed_len after_star bs < length bs
    → drop (bracketed_len after_star bs) bs ≡ 47 ∷ drop (suc (bracketed_len after_star bs)) bs
unfolding bracketed_len
bracketed_slash after_star [] h = absurd (omega arith)
bracketed_slash true (b ∷ bs) h = elim (cases_Bool (b == 47)) [
  | inl e ↦ rw e (ap (λ c. c ∷ bs) (eqb-true b 47 e))
  | inr e ↦ (let r = rw e at h in rw e (bracketed_slash (b == 42) bs (omega arith)))
]
bracketed_slash false (b ∷ bs) h = bracketed_slash (b == 42) bs (omega arith)

-- a comment, and the rest after it
pub record IsComment (bs : List ℕ) : Type 0 where
  pub comment : List ℕ
  pub rest : List ℕ
  pub cut : bs ≡ comment ++ rest
  pub long : length comment ≡ comment_len bs
  pub joins : (gap following : List ℕ) → rest ≡ gap ++ following → Gap gap following → Gap (comment ++ gap) following

hash_at : (bs : List ℕ) → IsComment (35 ∷ bs)
unfolding comment_len
hash_at bs = record {
  comment = 35 ∷ take (prefix_len not_lf bs) bs;
  rest = drop (prefix_len not_lf bs) bs;
  cut = ap (λ cs. 35 ∷ cs) (sym (take-append-drop (prefix_len not_lf bs) bs));
  long = (let w = length-take-le (prefix_len not_lf bs) bs (prefix_len-le-length not_lf bs) in omega arith);
  joins = λ gap following e g. gap_hash (take (prefix_len not_lf bs) bs) gap following (prefix_passes not_lf bs) (rw (← e) (prefix_ends not_lf bs)) g;
}

hash_comment : (bs : List ℕ) → begins_with 35 bs ≡ true → IsComment bs
hash_comment [] h = absurd (false≢true h)
hash_comment (b ∷ bs) h = let P : ℕ → Type 0 = λ c. IsComment (c ∷ bs) in subst P (sym (eqb-true b 35 h)) (hash_at bs)

bracketed_at : (body : List ℕ) → bracketed_len false body < length body → closed_len body ≡ bracketed_len false body + 3 → IsComment (47 ∷ 42 ∷ body)
unfolding comment_len Starred
bracketed_at body h c =
    let n : ℕ = bracketed_len false body in
    let starred = bracketed_starred false body h in
    let text : List ℕ = starred.0 in
    let slash = bracketed_slash false body h in
    let whole : body ≡ text ++ (42 ∷ 47 ∷ drop (suc n) body) = sym (take-append-drop n body)
    ∙ joined (take n body) (drop n body) text (drop (suc n) body) starred.1 slash in
    let closes_not : closes (text ++ 42 ∷ []) ≡ false = rw starred.1 at (bracketed_closes false body h) in
    let t = length-take-le n body (omega arith) in
    let l = ap length starred.1 in
    record {
      comment = 47 ∷ 42 ∷ (text ++ 42 ∷ 47 ∷ []);
      rest = drop (suc n) body;
      cut = ap (λ cs. 47 ∷ 42 ∷ cs) (whole ∙ sym (append_assoc text (42 ∷ 47 ∷ []) (drop (suc n) body)));
      long = omega (arith, length-append text (42 ∷ []), length-append text (42 ∷ 47 ∷ []));
      joins = λ gap following e g. rw append_assoc (gap_bracketed text gap following closes_not g);
    }
  where
    joined : (front back text rest : List ℕ) → front ≡ text ++ 42 ∷ [] → back ≡ 47 ∷ rest → front ++ back ≡ text ++ (42 ∷ 47 ∷ rest)
    joined front back text rest e f = rw (e, f, append_assoc) refl

bracketed_comment : (bs : List ℕ) → begins_with 35 bs ≡ false → opens_bracketed bs ≡ true → 0 < comment_len bs → IsComment bs
unfolding comment_len
bracketed_comment [] h o some = absurd (false≢true o)
bracketed_comment (b ∷ []) h o some = absurd (false≢true (and_parts (b == 47) false o).1)
bracketed_comment (b ∷ c ∷ body) h o some =
    let p = and_parts (b == 47) (c == 42) o in
    let length_is = rw (h, o) at some in
    let P : ℕ → Type 0 = λ d. IsComment (d ∷ c ∷ body) in
    let Q : ℕ → Type 0 = λ d. IsComment (47 ∷ d ∷ body) in
    subst P (sym (eqb-true b 47 p.0)) (subst Q (sym (eqb-true c 42 p.1)) (elim (cases_Bool (nat_lt (bracketed_len false body) (length body))) [
      | inl t ↦ bracketed_at body (ltb-true (bracketed_len false body) (length body) t) (rw t refl)
      | inr t ↦ absurd (lt_irrefl 0 (rw t at length_is))
    ]))

comment_sound : (bs : List ℕ) → 0 < comment_len bs → IsComment bs
unfolding comment_len
comment_sound bs some = elim (cases_Bool (begins_with 35 bs)) [
  | inl h ↦ hash_comment bs h
  | inr h ↦ elim (cases_Bool (opens_bracketed bs)) [
    | inl o ↦ bracketed_comment bs h o some
    | inr o ↦ (let none = rw (h, o) at some in absurd (omega arith))
  ]
]

-- a gap, and the rest after it
pub record IsGap (bs : List ℕ) : Type 0 where
  pub gap : List ℕ
  pub rest : List ℕ
  pub cut : bs ≡ gap ++ rest
  pub long : length gap ≡ gap_len 0 bs
  pub gap_is : Gap gap rest
  pub stops : gap_len 0 rest ≡ 0

pub white_more : (b : ℕ) (bs : List ℕ) → is_white b ≡ true → gap_len 0 (b ∷ bs) ≡ suc (gap_len 0 bs)
unfolding gap_len
white_more b bs w = rw w refl

pub dropped : (bs front back : List ℕ) → bs ≡ front ++ back → (n : ℕ) → length front ≡ n → drop n bs ≡ back
dropped bs front back e n l = rw (e, ← l) (drop-append_seam front back)

gap_from : (turns : ℕ) (bs : List ℕ) → length bs < turns → IsGap bs
gap_from zero bs enough = absurd (omega arith)
gap_from (suc turns) [] enough = record {
  gap = [];
  rest = [];
  cut = refl;
  long = sym (gap_nothing [] refl);
  gap_is =
      gap_end [];
  stops = gap_nothing [] refl;
}
gap_from (suc turns) (b ∷ bs) enough = elim (cases_Bool (is_white b)) [
  | inl w ↦ (let r = gap_from turns bs (omega arith) in record {
    gap = b ∷ r.gap;
    rest = r.rest;
    cut = ap (λ cs. b ∷ cs) r.cut;
    long = ap suc r.long ∙ sym (white_more b bs w);
    gap_is = gap_white b r.gap r.rest w r.gap_is;
    stops = r.stops;
  })
  | inr w ↦ elim (cases_lt 0 (comment_len (b ∷ bs))) [
    | inl some ↦ (
        let k = comment_sound (b ∷ bs) some in
        let whole = ap length k.cut ∙ length-append k.comment k.rest in
        let lc = k.long in
        let m = gap_comment (b ∷ bs) w some (omega arith) in
        let r = gap_from turns k.rest (omega arith) in
        let following = dropped (b ∷ bs) k.comment k.rest k.cut (comment_len (b ∷ bs)) k.long in
        let lr = r.long in
        record {
          gap = k.comment ++ r.gap;
          rest = r.rest;
          cut = k.cut ∙ ap (λ cs. k.comment ++ cs) r.cut ∙ sym (append_assoc k.comment r.gap r.rest);
          long = (let g = rw following at m in omega (arith, length-append k.comment r.gap));
          gap_is = k.joins r.gap r.rest r.cut r.gap_is;
          stops = r.stops;
        })
    | inr none ↦ record {
      gap = [];
      rest = b ∷ bs;
      cut = refl;
      long = sym (gap_none (b ∷ bs) w (omega arith));
      gap_is =
          gap_end (b ∷ bs);
      stops = gap_none (b ∷ bs) w (omega arith);
    }
  ]
]

pub gap_sound : (bs : List ℕ) → IsGap bs
gap_sound bs = gap_from (suc (length bs)) bs (omega arith)
