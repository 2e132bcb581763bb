-- The row of the volumes that a folder has.
use Rattle.std.proofs.Common.{◌≡◌, ◌≢◌, ℕ, zero, suc, max, ◌+◌, ◌≤◌, ◌==◌, ◌||◌, ◌⊎◌, inl, inr, not, Bool, true, false, cond, List, [], ◌∷◌, ◌++◌, filter}
use Rattle.std.proofs.Common.{refl, sym, ap, subst, ◌∙◌, arith}
use Rattle.std.specs.Prelude.{Contains}
use Rattle.std.specs.List.{list_any}
use Rattle.std.proofs.lemmas.Bool.Decides.{nat_tests}
use Rattle.std.proofs.lemmas.List.Elements.{filter-append, Contains-append_left, Contains-append_right, Contains-push, Contains-push_cases, Contains-append_cases}
use Rattle.record_volumes.specs.Rows.{greatest, missing, missing_to, numbers_to}
use Rattle.cli_volumes.specs.Rows.{AreThere, IsRowOf, LackFiles, last_of}
use Rattle.cli_volumes.specs.declared.sheet.Sheet.{Sheet}

-- ---- the greatest of some numbers

pub begun_below : (n : ℕ) (ms : List ℕ) → n ≤ greatest n ms
begun_below n [] = omega arith
begun_below n (m ∷ ms) = omega (arith, begun_below (max n m) ms)

-- an element of a list is its first one, or one of the others
contains_cases : (m : ℕ) (ms : List ℕ) (v : ℕ) → Contains (m ∷ ms) v → (m ≡ v) ⊎ Contains ms v
contains_cases m ms v (zero, below, is) = inl is
contains_cases m ms v (suc k, below, is) = inr (k, omega arith, is)

contains_first : (m : ℕ) (ms : List ℕ) → Contains (m ∷ ms) m
contains_first m ms = (0, omega arith, refl)

contains_later : (m : ℕ) (ms : List ℕ) (v : ℕ) → Contains ms v → Contains (m ∷ ms) v
contains_later m ms v (k, below, is) = (suc k, omega arith, is)

pub each_below : (n : ℕ) (ms : List ℕ) (v : ℕ) → Contains ms v → v ≤ greatest n ms
each_below n [] v (k, below, is) = absurd (omega arith)
each_below n (m ∷ ms) v found =
    elim (contains_cases m ms v found) [ inl e ↦ omega (arith, e, begun_below (max n m) ms) | inr later ↦ each_below (max n m) ms v later ]

pub same_greatest : (n : ℕ) (ms : List ℕ) → ((v : ℕ) → Contains ms v → v ≤ n) → greatest n ms ≡ n
same_greatest n [] below = refl
same_greatest n (m ∷ ms) below =
    let first : m ≤ n = below m (contains_first m ms) in
    let e : max n m ≡ n = omega arith in
    ap (λ k. greatest k ms) e ∙ same_greatest n ms (λ v later. below v (contains_later m ms v later))

-- ---- which numbers are found

pub is_found : (ns : List ℕ) (n : ℕ) → list_any (λ m. n == m) ns ≡ true → Contains ns n
is_found [] n e = absurd (cc)
is_found (m ∷ ms) n e = go (n == m) refl e (is_found ms n)
  where
    go : (b : Bool) → (n == m) ≡ b → (b || list_any (λ k. n == k) ms) ≡ true → (list_any (λ k. n == k) ms ≡ true → Contains ms n)
        → Contains (m ∷ ms) n
    go true is e more = (0, omega arith, grind (arith, nat_tests))
    go false is e more = contains_later m ms n (more e)

pub not_found : (ns : List ℕ) (n : ℕ) → list_any (λ m. n == m) ns ≡ false → Contains ns n → ⊥
not_found [] n e (k, below, is) = omega arith
not_found (m ∷ ms) n e found = go (n == m) refl e (not_found ms n)
  where
    go : (b : Bool) → (n == m) ≡ b → (b || list_any (λ k. n == k) ms) ≡ false
        → (list_any (λ k. n == k) ms ≡ false → Contains ms n → ⊥) → ⊥
    go true is e more = cc
    go false is e more =
        elim (contains_cases m ms n found) [ inl same ↦ grind (arith, nat_tests) | inr later ↦ more e later ]

found_else : (ns : List ℕ) (n : ℕ) → (list_any (λ m. n == m) ns ≡ false → ⊥) → (P : Type 0) → (Contains ns n → P) → P
found_else ns n none P then = go (list_any (λ m. n == m) ns) refl
  where
    go : (b : Bool) → list_any (λ m. n == m) ns ≡ b → P
    go true is = then (is_found ns n is)
    go false is = absurd (none is)

-- ---- which numbers up to a last one are missing

kept_first : (p : ℕ → Bool) (n : ℕ) → p n ≡ true → Contains (filter p (n ∷ [])) n
kept_first p n is = subst (λ (b : Bool). Contains (cond b (n ∷ []) []) n) (sym is) (contains_first n [])

pub is_missing : (last : ℕ) (found : List ℕ) (v : ℕ) → 1 ≤ v → v ≤ last → list_any (λ m. v == m) found ≡ false
    → Contains (missing_to last found) v
is_missing zero found v one below none = absurd (omega arith)
is_missing (suc n) found v one below none =
    rw (filter-append (λ w. not (list_any (λ m. w == m) found)) (numbers_to n) (suc n ∷ []))
    (go (v == suc n) refl (λ less. is_missing n found v one less none))
  where
    go : (b : Bool) → (v == suc n) ≡ b → (v ≤ n → Contains (missing_to n found) v)
        → Contains (missing_to n found ++ filter (λ w. not (list_any (λ m. w == m) found)) (suc n ∷ [])) v
    go true same more =
        let e : v ≡ suc n = grind (arith, nat_tests) in
        Contains-append_right (missing_to n found) (filter (λ w. not (list_any (λ m. w == m) found)) (suc n ∷ [])) v
        (subst (λ (k : ℕ). Contains (filter (λ w. not (list_any (λ m. w == m) found)) (k ∷ [])) v) e
        (kept_first (λ w. not (list_any (λ m. w == m) found)) v (ap not none)))
    go false other more =
        let less : v ≤ n = grind (arith, nat_tests) in
        Contains-append_left (missing_to n found) (filter (λ w. not (list_any (λ m. w == m) found)) (suc n ∷ [])) v (more less)

pub none_missing : (last : ℕ) (found : List ℕ) → missing_to last found ≡ [] → (v : ℕ) → 1 ≤ v → v ≤ last → Contains found v
none_missing last found none v one below = go (list_any (λ m. v == m) found) refl
  where
    go : (b : Bool) → list_any (λ m. v == m) found ≡ b → Contains found v
    go true is = is_found found v is
    go false is =
        let held : Contains [] v = subst (λ (l : List ℕ). Contains l v) none (is_missing last found v one below is) in
        absurd (omega (arith, held.1))

-- a missing number is one of those up to the last, and is not found
pub missing_are : (last : ℕ) (found : List ℕ) (v : ℕ) → Contains (missing_to last found) v
    → (1 ≤ v) × (v ≤ last) × (list_any (λ m. v == m) found ≡ false)
missing_are zero found v (k, below, is) = absurd (omega arith)
missing_are (suc n) found v held =
    elim (Contains-append_cases (missing_to n found) (filter (λ w. not (list_any (λ m. w == m) found)) (suc n ∷ [])) v
    (rw (filter-append (λ w. not (list_any (λ m. w == m) found)) (numbers_to n) (suc n ∷ [])) at held)) [
      | inl before ↦ (let h : (1 ≤ v) × (v ≤ n) × (list_any (λ m. v == m) found ≡ false) = missing_are n found v before in
          (h.0, omega arith, h.2))
      | inr last ↦ go (list_any (λ m. suc n == m) found) refl last
    ]
  where
    go : (b : Bool) → list_any (λ m. suc n == m) found ≡ b → Contains (cond (not b) (suc n ∷ []) []) v
        → (1 ≤ v) × (v ≤ suc n) × (list_any (λ m. v == m) found ≡ false)
    go true is (k, below, e) = absurd (omega arith)
    go false is held =
        elim (contains_cases (suc n) [] v held) [
          | inl e ↦ (omega arith, omega arith, subst (λ (w : ℕ). list_any (λ m. w == m) found ≡ false) e is)
          | inr none ↦ absurd (omega (arith, none.1))
        ]

-- ---- which of the named volumes are there

pub one_there : (leads : ℕ → Bool → Type 0) (named there after : List ℕ) (v : ℕ) (b : Bool) → leads v b → b ≡ true → after ≡ there ++ v ∷ []
    → AreThere leads named there → AreThere leads (named ++ v ∷ []) after
one_there leads named there after v b led is added so_far =
    let leading : leads v true = subst (λ (a : Bool). leads v a) is led in
    subst (λ (l : List ℕ). AreThere leads (named ++ v ∷ []) l) (sym added) (record {
      found = λ w held. elim (Contains-push_cases there v w held) [
        | inl before ↦ Contains-append_left named (v ∷ []) w (so_far.found w before)
        | inr same ↦ subst (λ (k : ℕ). Contains (named ++ v ∷ []) k) same (Contains-push named v)
      ];
      leading = λ w held. elim (Contains-push_cases there v w held)
          [ inl before ↦ so_far.leading w before | inr same ↦ subst (λ (k : ℕ). leads k true) same leading ];
      others = λ w held lacking. elim (Contains-push_cases named v w held) [
        | inl before ↦ so_far.others w before (λ found. lacking (Contains-append_left there (v ∷ []) w found))
        | inr same ↦ absurd (lacking (subst (λ (k : ℕ). Contains (there ++ v ∷ []) k) same (Contains-push there v)))
      ];
    })

pub one_lacking : (leads : ℕ → Bool → Type 0) (named there after : List ℕ) (v : ℕ) (b : Bool) → leads v b → b ≡ false → after ≡ there
    → AreThere leads named there → AreThere leads (named ++ v ∷ []) after
one_lacking leads named there after v b led is same_list so_far =
    let lacks : leads v false = subst (λ (a : Bool). leads v a) is led in
    subst (λ (l : List ℕ). AreThere leads (named ++ v ∷ []) l) (sym same_list) (record {
      found = λ w held. Contains-append_left named (v ∷ []) w (so_far.found w held);
      leading = so_far.leading;
      others = λ w held lacking. elim (Contains-push_cases named v w held)
          [ inl before ↦ so_far.others w before lacking | inr same ↦ subst (λ (k : ℕ). leads k false) same lacks ];
    })

-- ---- what the row is

pub whole_row : (leads : ℕ → Bool → Type 0) (sheet : Sheet) (named there : List ℕ) (last row_last : ℕ) → missing sheet.begun named ≡ []
    → last ≡ last_of sheet named → AreThere leads named there → missing last there ≡ [] → row_last ≡ greatest last there → 1 ≤ row_last
    → IsRowOf leads sheet named (record { sheet = sheet; last = row_last })
whole_row leads sheet named there last row_last all_named is_last are none is_greatest some =
    let within : (v : ℕ) → Contains there v → v ≤ last =
    λ v held. subst (λ (n : ℕ). v ≤ n) (sym is_last) (each_below sheet.begun named v (are.found v held)) in
    let same : row_last ≡ last = is_greatest ∙ same_greatest last there within in
    let all_there : (v : ℕ) → 1 ≤ v → v ≤ row_last → Contains there v =
    λ v one below. none_missing (greatest last there) there none v one (subst (λ (n : ℕ). v ≤ n) is_greatest below) in
    record {
      as_said = refl;
      some = some;
      all_named = λ v one below. are.found v (all_there v one below);
      all_there = λ v one below. are.leading v (all_there v one below);
      none_after = λ v held. subst (λ (n : ℕ). v ≤ n) (sym (same ∙ is_last)) (each_below sheet.begun named v held);
      none_begun_after = subst (λ (n : ℕ). sheet.begun ≤ n) (sym (same ∙ is_last)) (begun_below sheet.begun named);
    }

pub lacking_files : (leads : ℕ → Bool → Type 0) (sheet : Sheet) (named there volumes : List ℕ) (last : ℕ) → missing sheet.begun named ≡ []
    → last ≡ last_of sheet named → AreThere leads named there → volumes ≡ missing last there → volumes ≢ []
    → LackFiles leads sheet named volumes
lacking_files leads sheet named there volumes last all_named is_last are is_missing_list some =
    let within : (v : ℕ) → Contains there v → v ≤ last =
    λ v held. subst (λ (n : ℕ). v ≤ n) (sym is_last) (each_below sheet.begun named v (are.found v held)) in
    let same : greatest last there ≡ last_of sheet named = same_greatest last there within ∙ is_last in
    let told : volumes ≡ missing_to (last_of sheet named) there = is_missing_list ∙ ap (λ n. missing_to n there) same in
    record {
      all_named = all_named;
      some = some;
      lacking = λ v held.
          let is : (1 ≤ v) × (v ≤ last_of sheet named) × (list_any (λ m. v == m) there ≡ false) =
          missing_are (last_of sheet named) there v (subst (λ (l : List ℕ). Contains l v) told held) in
          are.others v (none_missing (last_of sheet named) named all_named v is.0 is.1) (not_found there v is.2);
      others = λ v one below lacking.
          found_else there v (λ is. lacking (subst (λ (l : List ℕ). Contains l v) (sym told)
          (is_missing (last_of sheet named) there v one below is))) (leads v true) (are.leading v);
    }
