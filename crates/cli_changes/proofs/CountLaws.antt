-- How often a number is in a list, and lists with the same numbers.
use Rattle.std.proofs.Common.{◌≡◌, ◌∙◌, ◌≤◌, ◌+◌, ◌==◌, ◌||◌, ℕ, Bool, true, false, cond, List, [], ◌∷◌, filter}
use Rattle.std.proofs.Common.{refl, sym, ap, ap₂, subst, arith, true≢false}
use Rattle.std.proofs.lemmas.Bool.Decides.{nat_tests}
use Rattle.std.proofs.lemmas.List.Sums.{sum_by-cons}
use Rattle.std.proofs.lemmas.List.Sorted.{IsPermutation-refl, IsPermutation-sym, IsPermutation-trans, IsPermutation-cons}
use Rattle.std.proofs.lemmas.List.Sorted.{IsPermutation-middle, sum_by-IsPermutation}
use Rattle.std.specs.List.Sorted.{IsPermutation}
use Rattle.std.specs.Prelude.{count_by}
use Rattle.record_choice.specs.Disposals.{is_one_of}
use Rattle.cli_changes.specs.Destructions.{EachOnce}

-- how often a number is there
abbrev pub times : ℕ → List ℕ → ℕ
times n [] = 0
times n (m ∷ ms) = cond (n == m) 1 0 + times n ms

times_is : (n : ℕ) (ns : List ℕ) → times n ns ≡ count_by (λ m. n == m) ns
times_is n [] = refl
times_is n (m ∷ ms) = ap (λ k. cond (n == m) 1 0 + k) (times_is n ms) ∙ sym (sum_by-cons (λ x. cond (n == x) 1 0) m ms)

pub once_counted : (ns : List ℕ) → ((n : ℕ) → times n ns ≤ 1) → EachOnce ns
once_counted ns h n = subst (λ k. k ≤ 1) (times_is n ns) (h n)

pub times_once : (ns : List ℕ) → EachOnce ns → (n : ℕ) → times n ns ≤ 1
times_once ns h n = subst (λ k. k ≤ 1) (sym (times_is n ns)) (h n)

pub times_moved : (n : ℕ) (xs ys : List ℕ) → IsPermutation xs ys → times n ys ≡ times n xs
times_moved n xs ys h = times_is n ys ∙ sum_by-IsPermutation (λ x. cond (n == x) 1 0) xs ys h ∙ sym (times_is n xs)

pub once_moved : (xs ys : List ℕ) → IsPermutation xs ys → EachOnce xs → EachOnce ys
once_moved xs ys h once = once_counted ys (λ n. subst (λ k. k ≤ 1) (sym (times_moved n xs ys h)) (times_once xs once n))

-- ---- lists in which each number is as often

abbrev without_one : ℕ → List ℕ → List ℕ
without_one n [] = []
without_one n (m ∷ ms) = cond (n == m) ms (m ∷ without_one n ms)

to_front : (n : ℕ) (ys : List ℕ) → 1 ≤ times n ys → IsPermutation (n ∷ without_one n ys) ys
to_front n [] h = absurd (omega (arith, h))
to_front n (m ∷ ms) h = go (n == m) refl h (to_front n ms)
  where
    go : (b : Bool) → (n == m) ≡ b → 1 ≤ cond b 1 0 + times n ms → (1 ≤ times n ms → IsPermutation (n ∷ without_one n ms) ms)
        → IsPermutation (n ∷ cond b ms (m ∷ without_one n ms)) (m ∷ ms)
    go true e h more =
        let same : n ≡ m = grind (arith, nat_tests, e) in
        subst (λ k. IsPermutation (n ∷ ms) (k ∷ ms)) same (IsPermutation-refl (n ∷ ms))
    go false e h more =
        IsPermutation-trans _ _ _ (IsPermutation-sym _ _ (IsPermutation-middle (m ∷ []) n (without_one n ms)))
        (IsPermutation-cons m _ _ (more (omega (arith, h))))

same_itself : (n : ℕ) → (n == n) ≡ true
same_itself n = grind (arith, nat_tests)

one_more : (n : ℕ) (ns : List ℕ) → times n (n ∷ ns) ≡ 1 + times n ns
one_more n ns = ap (λ b. cond b 1 0 + times n ns) (same_itself n)

pub same_times : (xs ys : List ℕ) → ((n : ℕ) → times n xs ≡ times n ys) → IsPermutation xs ys
same_times [] [] h = IsPermutation-refl []
same_times [] (y ∷ ys) h = let e = h y in let f = one_more y ys in absurd (omega (arith, e, f))
same_times (x ∷ xs) ys h =
    let e = h x in
    let f = one_more x xs in
    let front = to_front x ys (omega (arith, e, f)) in
    IsPermutation-trans _ _ _
    (IsPermutation-cons x xs (without_one x ys)
    (same_times xs (without_one x ys) (λ n.
    let g = h n in
    let k = times_moved n (x ∷ without_one x ys) ys front in
    omega (arith, g, k))))
    front

-- ---- filters

pub times_filter : (n : ℕ) (p : ℕ → Bool) (ns : List ℕ) → times n (filter p ns) ≡ cond (p n) (times n ns) 0
times_filter n p [] = go (p n)
  where
    go : (b : Bool) → ◌≡◌ {A = ℕ} 0 (cond b 0 0)
    go true = refl
    go false = refl
times_filter n p (m ∷ ms) = go (n == m) refl (p m) refl (p n) refl (times_filter n p ms)
  where
    go : (same : Bool) → (n == m) ≡ same → (b : Bool) → p m ≡ b → (c : Bool) → p n ≡ c
        → times n (filter p ms) ≡ cond c (times n ms) 0
        → times n (cond b (m ∷ filter p ms) (filter p ms)) ≡ cond c (cond same 1 0 + times n ms) 0
    go same e true f true g more = ap₂ (λ s k. cond s 1 0 + k) e more
    go false e true f false g more = ap₂ (λ s k. cond s 1 0 + k) e more
    go true e true f false g more =
        let is : n ≡ m = grind (arith, nat_tests, e) in absurd (true≢false (sym f ∙ ap p (sym is) ∙ g))
    go true e false f true g more =
        let is : n ≡ m = grind (arith, nat_tests, e) in absurd (true≢false (sym g ∙ ap p is ∙ f))
    go false e false f true g more = let k : times n (filter p ms) ≡ 0 + times n ms = omega (arith, more) in k
    go same e false f false g more = more

pub one_of_times : (ns : List ℕ) (n : ℕ) → is_one_of ns n ≡ true → 1 ≤ times n ns
one_of_times [] n e = absurd (true≢false (sym e))
one_of_times (m ∷ ms) n e = go (n == m) e (one_of_times ms n)
  where
    go : (b : Bool) → (b || is_one_of ms n) ≡ true → (is_one_of ms n ≡ true → 1 ≤ times n ms) → 1 ≤ cond b 1 0 + times n ms
    go true e more = omega arith
    go false e more = let k = more e in omega (arith, k)

pub none_of_times : (ns : List ℕ) (n : ℕ) → is_one_of ns n ≡ false → times n ns ≡ 0
none_of_times [] n e = refl
none_of_times (m ∷ ms) n e = go (n == m) e (none_of_times ms n)
  where
    go : (b : Bool) → (b || is_one_of ms n) ≡ false → (is_one_of ms n ≡ false → times n ms ≡ 0) → cond b 1 0 + times n ms ≡ 0
    go true e more = absurd (true≢false e)
    go false e more = let k = more e in omega (arith, k)

-- those of some numbers that are in a list, where each of them is
pub picked : (rs ds : List ℕ) → EachOnce rs → EachOnce ds → ((n : ℕ) → is_one_of rs n ≡ true → is_one_of ds n ≡ true)
    → IsPermutation (filter (is_one_of rs) ds) rs
picked rs ds once distinct there = same_times (filter (is_one_of rs) ds) rs (λ n. go n (is_one_of rs n) refl)
  where
    go : (n : ℕ) (b : Bool) → is_one_of rs n ≡ b → times n (filter (is_one_of rs) ds) ≡ times n rs
    go n true e =
        let l = times_filter n (is_one_of rs) ds ∙ ap (λ b. cond b (times n ds) 0) e in
        let r = one_of_times rs n e in
        let d = one_of_times ds n (there n e) in
        let s = times_once rs once n in
        let t = times_once ds distinct n in
        omega (arith, l, r, d, s, t)
    go n false e = times_filter n (is_one_of rs) ds ∙ ap (λ b. cond b (times n ds) 0) e ∙ sym (none_of_times rs n e)
