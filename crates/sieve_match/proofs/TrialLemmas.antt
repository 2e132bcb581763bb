-- A search in progress, and the comparisons that are left to it.
use Rattle.std.proofs.Common.{◌≡◌, ℕ, ◌+◌, Bool, true, false, cond, eqb, List, [], ◌∷◌, length, ◌⊎◌, inl, inr, Option}
use Rattle.std.proofs.Common.{Some, None, refl, sym, subst, arith}
use Rattle.std.specs.Borrow.{Bor}
use Rattle.std.proofs.lemmas.List.{nil_from_length}
use Rattle.sieve_meaning.specs.declared.matching.Comparator.{Comparator}
use Rattle.sieve_meaning.specs.declared.matching.Item.{Item}
use Rattle.sieve_meaning.specs.declared.matching.Item.TheVariants.{Octet, One, Any}
use Rattle.sieve_meaning.specs.Matching.{fold_octet, items_of}
use Rattle.sieve_match.specs.Search.{Trial, covered, to_star, misfit, trial, comparisons, Search, covers_all, at_star, at_front, at_end, next_place}
use Rattle.sieve_match.specs.Steps.{compared_length, ends, star, goes, stuck, turn_of}
use Rattle.sieve_match.proofs.SearchLemmas.{ends_is, star_is}

-- what is tried if a try fails: nothing, or the items after the last `*`, one octet after the place of the last try
abbrev pub Again : Type 0
Again = Option (List Item × List ℕ)

-- what is left of a search in the midst of a try
abbrev AfterMisfit : Comparator → Again → Bool → ℕ → Type 0
AfterMisfit c None answer n = (answer ≡ false) × (n ≡ 0)
AfterMisfit c (Some (after, [])) answer n = (answer ≡ false) × (n ≡ 0)
AfterMisfit c (Some (after, b ∷ text)) answer n = Search c true after text answer n

abbrev After : Comparator → Again → Trial → Bool → ℕ → Type 0
After c again covered answer n = (answer ≡ true) × (n ≡ 0)
After c again (to_star next rest) answer n = Search c true next rest answer n
After c again misfit answer n = AfterMisfit c again answer n

-- the comparisons of the rest of the try, and those of what comes after it
pub record Resumes (c : Comparator) (again : Again) (items : List Item) (rest : List ℕ) (answer : Bool) (n : ℕ) : Type 0 where
  pub later : ℕ
  pub after : After c again (trial c items rest) answer later
  pub count : n ≡ comparisons c items rest + later

-- a search that begins with a try
search_from : (c : Comparator) (starred : Bool) (again : Again) (items : List Item) (text : List ℕ) (answer : Bool)
    (n : ℕ) → (t : Trial) → trial c items text ≡ t → (m : ℕ) → After c again t answer m
    → n ≡ comparisons c items text + m → ((starred ≡ false) × (again ≡ None)) ⊎ ((starred ≡ true)
    × (again ≡ Some (items, text))) → Search c starred items text answer n
search_from c starred again items text answer n covered e m h count place =
    subst (λ (a : Bool). Search c starred items text a n) (sym h.0) (subst (λ (k : ℕ).
    Search c starred items text true k) (omega (arith, count, h.1)) (covers_all starred items text e))
search_from c starred again items text answer n (to_star next rest) e m h count place =
    subst (λ (k : ℕ). Search c starred items text answer k) (sym count)
    (at_star starred items next text rest answer m e h)
search_from c starred again items text answer n misfit e m h count (inl (s, p)) =
    let k : AfterMisfit c None answer m = subst (λ (a : Again). AfterMisfit c a answer m) p h in
    subst (λ (b : Bool). Search c b items text answer n) (sym s) (subst (λ (a : Bool).
    Search c false items text a n) (sym k.0) (subst (λ (x : ℕ).
    Search c false items text false x) (omega (arith, count, k.1)) (at_front items text e)))
search_from c starred again items [] answer n misfit e m h count (inr (s, p)) =
    let k : AfterMisfit c (Some (items, [])) answer m = subst (λ (a : Again). AfterMisfit c a answer m) p h in
    subst (λ (b : Bool). Search c b items [] answer n) (sym s) (subst (λ (a : Bool).
    Search c true items [] a n) (sym k.0) (subst (λ (x : ℕ).
    Search c true items [] false x) (omega (arith, count, k.1)) (at_end items e)))
search_from c starred again items (b ∷ text) answer n misfit e m h count (inr (s, p)) =
    let k : AfterMisfit c (Some (items, b ∷ text)) answer m = subst (λ (a : Again). AfterMisfit c a answer m) p h in
    subst (λ (x : Bool). Search c x items (b ∷ text) answer n) (sym s) (subst (λ (x : ℕ).
    Search c true items (b ∷ text) answer x) (sym count) (next_place items b text answer m e k))

first_try : (c : Comparator) (items : List Item) (text : List ℕ) (answer : Bool) (n : ℕ)
    → Resumes c None items text answer n → Search c false items text answer n
first_try c items text answer n h = search_from c false None items text answer n (trial c items text) refl h.later h.after h.count (inl (refl, refl))

later_try : (c : Comparator) (items : List Item) (text : List ℕ) (answer : Bool) (n : ℕ)
    → Resumes c (Some (items, text)) items text answer n → Search c true items text answer n
later_try c items text answer n h =
    search_from c true (Some (items, text)) items text answer n (trial c items text) refl h.later h.after h.count
    (inr (refl, refl))

-- one octet further in a try
record SameTry (c : Comparator) (items : List Item) (rest : List ℕ) (next : List Item) (following : List ℕ) : Type 0 where
  trial_is : trial c items rest ≡ trial c next following
  count_is : comparisons c items rest ≡ compared_length items rest + comparisons c next following

octet_goes : (c : Comparator) (o b : ℕ) (is next : List Item) (bs following : List ℕ) (t : Bool)
    → eqb (fold_octet c o) (fold_octet c b) ≡ t → cond t (goes is bs) stuck ≡ goes next following
    → SameTry c (Octet o ∷ is) (b ∷ bs) next following
octet_goes c o b is next bs following true e f = let i : is ≡ next = cc in let r : bs ≡ following = cc in
    rw (← i, ← r) (record { trial_is = rw e refl; count_is = rw e (omega arith) })
octet_goes c o b is next bs following false e f = absurd cc

goes_on : (c : Comparator) (items : List Item) (rest : List ℕ) (next : List Item) (following : List ℕ)
    → turn_of c items rest ≡ goes next following → SameTry c items rest next following
goes_on c [] [] next following e = absurd cc
goes_on c (Octet o ∷ is) (b ∷ bs) next following e = octet_goes c o b is next bs following (eqb (fold_octet c o) (fold_octet c b)) refl e
goes_on c (One ∷ is) [] next following e = absurd cc
goes_on c (One ∷ is) (b ∷ bs) next following e = let i : is ≡ next = cc in let r : bs ≡ following = cc in
    rw (← i, ← r) (record { trial_is = refl; count_is = omega arith })
goes_on c items rest next following e = absurd cc

-- the end of a try
record EndsTry (c : Comparator) (items : List Item) (rest : List ℕ) (t : Trial) : Type 0 where
  trial_is : trial c items rest ≡ t
  count_is : comparisons c items rest ≡ compared_length items rest

octet_stuck : (c : Comparator) (o b : ℕ) (is : List Item) (bs : List ℕ) (t : Bool)
    → eqb (fold_octet c o) (fold_octet c b) ≡ t → cond t (goes is bs) stuck ≡ stuck
    → EndsTry c (Octet o ∷ is) (b ∷ bs) misfit
octet_stuck c o b is bs true e f = absurd cc
octet_stuck c o b is bs false e f = record { trial_is = rw e refl; count_is = rw e refl }

misfits : (c : Comparator) (items : List Item) (rest : List ℕ) → turn_of c items rest ≡ stuck → EndsTry c items rest misfit
misfits c [] [] e = absurd cc
misfits c [] (b ∷ bs) e = record { trial_is = refl; count_is = refl }
misfits c (Octet o ∷ is) [] e = record { trial_is = refl; count_is = refl }
misfits c (Octet o ∷ is) (b ∷ bs) e = octet_stuck c o b is bs (eqb (fold_octet c o) (fold_octet c b)) refl e
misfits c (One ∷ is) [] e = record { trial_is = refl; count_is = refl }
misfits c (One ∷ is) (b ∷ bs) e = absurd cc
misfits c (Any ∷ is) text e = absurd cc

covers_text : (c : Comparator) (items : List Item) (rest : List ℕ) → turn_of c items rest ≡ ends → EndsTry c items rest covered
covers_text c items rest e = let p = ends_is c items rest e in rw (p.0, p.1) (record { trial_is = refl; count_is = refl })

reaches_star : (c : Comparator) (items next : List Item) (rest : List ℕ) → turn_of c items rest ≡ star next → EndsTry c items rest (to_star next rest)
reaches_star c items next rest e = rw (star_is c items rest next e) (record { trial_is = refl; count_is = refl })

-- the search is in progress: whatever the answer and the comparisons of its rest, the whole has that answer, and those
-- comparisons with the ones so far
abbrev pub Exact : Comparator → List Item → List ℕ → Again → List Item → List ℕ → ℕ → Type 0
Exact c all value again items rest count = (answer : Bool) (n : ℕ) → Resumes c again items rest answer n → Search c false all value answer (count + n)

counted : (c : Comparator) (all : List Item) (value : List ℕ) (answer : Bool) (m n : ℕ) → m ≡ n
    → Search c false all value answer m → Search c false all value answer n
counted c all value answer m n e h = subst (λ (k : ℕ). Search c false all value answer k) e h

pub Exact-first : (c : Comparator) (all : List Item) (value : List ℕ) → Exact c all value None all value 0
Exact-first c all value = λ answer n h. counted c all value answer n (0 + n) (omega arith) (first_try c all value answer n h)

pub Exact-goes : (c : Comparator) (all : List Item) (value : List ℕ) (again : Again) (items next : List Item)
    (rest following : List ℕ) (count more : ℕ) → Exact c all value again items rest count
    → turn_of c items rest ≡ goes next following → more ≡ compared_length items rest
    → Exact c all value again next following (count + more)
Exact-goes c all value again items next rest following count more h e m = λ answer n k.
    let g = goes_on c items rest next following e in
    counted c all value answer (count + (more + n)) (count + more + n) (omega arith) (h answer (more + n) (record {
      later = k.later;
      after = subst (λ (t : Trial). After c again t answer k.later) (sym g.trial_is) k.after;
      count = omega (arith, m, g.count_is, k.count);
    }))

pub Exact-star : (c : Comparator) (all : List Item) (value : List ℕ) (again : Again) (items next : List Item)
    (rest : List ℕ) (count more : ℕ) → Exact c all value again items rest count → turn_of c items rest ≡ star next
    → more ≡ compared_length items rest → Exact c all value (Some (next, rest)) next rest (count + more)
Exact-star c all value again items next rest count more h e m = λ answer n k.
    let g = reaches_star c items next rest e in
    counted c all value answer (count + (more + n)) (count + more + n) (omega arith) (h answer (more + n) (record {
      later = n;
      after = subst (λ (t : Trial). After c again t answer n) (sym g.trial_is) (later_try c next rest answer n k);
      count = omega (arith, m, g.count_is);
    }))

pub Exact-stuck : (c : Comparator) (all : List Item) (value : List ℕ) (items : List Item) (rest : List ℕ)
    (after : List Item) (since : List ℕ) (b : ℕ) (following : List ℕ) (count more : ℕ)
    → Exact c all value (Some (after, since)) items rest count → since ≡ b ∷ following → turn_of c items rest ≡ stuck
    → more ≡ compared_length items rest → Exact c all value (Some (after, following)) after following (count + more)
Exact-stuck c all value items rest after since b following count more h place e m = λ answer n k.
    let g = misfits c items rest e in
    let left : AfterMisfit c (Some (after, since)) answer n =
    subst (λ (xs : List ℕ). AfterMisfit c (Some (after, xs)) answer n) (sym place)
    (later_try c after following answer n k) in
    counted c all value answer (count + (more + n)) (count + more + n) (omega arith) (h answer (more + n) (record {
      later = n;
      after = subst (λ (t : Trial). After c (Some (after, since)) t answer n) (sym g.trial_is) left;
      count = omega (arith, m, g.count_is);
    }))

-- the three ends of a search
pub Exact-ends : (c : Comparator) (all : List Item) (value : List ℕ) (again : Again) (items : List Item) (rest : List ℕ)
    (count more : ℕ) → Exact c all value again items rest count → turn_of c items rest ≡ ends
    → more ≡ compared_length items rest → Search c false all value true (count + more)
Exact-ends c all value again items rest count more h e m =
    let g = covers_text c items rest e in
    h true more (record {
      later = 0;
      after = subst (λ (t : Trial). After c again t true 0) (sym g.trial_is) (
        refl,
        refl,
      );
      count = omega (arith, m, g.count_is);
    })

fails : (c : Comparator) (all : List Item) (value : List ℕ) (again : Again) (items : List Item) (rest : List ℕ)
    (count more : ℕ) → Exact c all value again items rest count → AfterMisfit c again false 0
    → turn_of c items rest ≡ stuck → more ≡ compared_length items rest → Search c false all value false (count + more)
fails c all value again items rest count more h over e m =
    let g = misfits c items rest e in
    h false more (record {
      later = 0;
      after = subst (λ (t : Trial). After c again t false 0) (sym g.trial_is) over;
      count = omega (arith, m, g.count_is);
    })

pub Exact-fails : (c : Comparator) (all : List Item) (value : List ℕ) (items : List Item) (rest : List ℕ)
    (count more : ℕ) → Exact c all value None items rest count → turn_of c items rest ≡ stuck
    → more ≡ compared_length items rest → Search c false all value false (count + more)
Exact-fails c all value items rest count more h e m = fails c all value None items rest count more h (refl, refl) e m

pub Exact-fails_at_end : (c : Comparator) (all : List Item) (value : List ℕ) (items : List Item) (rest : List ℕ)
    (after : List Item) (since : List ℕ) (count more : ℕ) → Exact c all value (Some (after, since)) items rest count
    → length since ≡ 0 → turn_of c items rest ≡ stuck → more ≡ compared_length items rest
    → Search c false all value false (count + more)
Exact-fails_at_end c all value items rest after since count more h empty e m =
    fails c all value (Some (after, since)) items rest count more h (subst (λ (xs : List ℕ).
    AfterMisfit c (Some (after, xs)) false 0) (sym (nil_from_length since empty)) (refl, refl)) e m

-- what is tried again, from what the code keeps
abbrev pub again_of : Option (Bor (List ℕ) × Bor (List ℕ)) → Again
again_of None = None
again_of (Some s) = Some (items_of s.0.now, s.1.now)
