-- The longest path, from the last place to the first.
use Rattle.std.proofs.Common.{◌≡◌, ℕ, zero, suc, ◌+◌, ◌-◌, ◌<◌, ◌≤◌, List, length, Bool, true, false, Option, Some}
use Rattle.std.proofs.Common.{None, refl, sym, ap, ◌∙◌, subst, arith, inl, inr, ◌⊎◌, set}
use Rattle.std.specs.Prelude.{slice_get, slice_index_or}
use Rattle.std.proofs.Math.ListN.{length-set}
use Rattle.std.proofs.lemmas.List.{get_or-set_same, get_or-set_other, get_or_past}
use Rattle.std.proofs.lemmas.Option.{slice_get_within}
use Rattle.std.proofs.lemmas.Bool.{cases_lt}
use Rattle.filing_image.specs.Program.{Program}
use Rattle.filing_image.specs.declared.instruction.Operation.{Operation}
use Rattle.filing_verify.specs.Flow.{target, goes_on, Follows, Leads, Path, IsReached}
use Rattle.filing_verify.specs.Passes.{GoesOnward, by_target, by_next, cost_at, Costs}

abbrev at : List ℕ → ℕ → ℕ
at costs p = slice_index_or costs p 0

module _ (program : Program) (o : Operation) (p : ℕ) (costs : List ℕ) where
  follower : (q : ℕ) → Follows program o p q → at costs q + 1 ≤ cost_at program o p costs
  follower q (inl (g, e)) =
      let n : by_next (goes_on o) p costs ≡ at costs q = rw (g, e) refl in
      omega arith
  follower q (inr to) =
      let n : by_target (target program o) costs ≡ at costs q = rw to refl in
      omega arith

  next_is : (g : Bool) → goes_on o ≡ g → (by_next (goes_on o) p costs ≡ 0) ⊎ (Follows program o p (p + 1)
      × (by_next (goes_on o) p costs ≡ at costs (p + 1)))
  next_is true e = inr (inl (e, refl), rw e refl)
  next_is false e = inl (rw e refl)

  target_is : (t : Option ℕ) → target program o ≡ t
      → (by_target (target program o) costs ≡ 0) ⊎ ((q : ℕ) × Follows program o p q
      × (by_target (target program o) costs ≡ at costs q))
  target_is None e = inl (rw e refl)
  target_is (Some q) e = inr (q, inr e, rw e refl)

  -- it is that of a successor and one more, or one
  is_of_one : (cost_at program o p costs ≡ 1) ⊎ ((q : ℕ) × Follows program o p q × (at costs q + 1 ≡ cost_at program o p costs))
  is_of_one =
      elim (next_is (goes_on o) refl) [
        | inl a ↦ elim (target_is (target program o) refl) [
          | inl b ↦ inl (omega arith)
          | inr (q, f, b) ↦ inr (q, f, omega arith)
        ]
        | inr (f, a) ↦ elim (target_is (target program o) refl) [
          | inl b ↦ inr (p + 1, f, omega arith)
          | inr (q, g, b) ↦ elim (cases_lt (at costs (p + 1)) (at costs q)) [
            | inl less ↦ inr (q, g, omega arith)
            | inr more ↦ inr (p + 1, f, omega arith)
          ]
        ]
      ]

module _ {program : Program} {i : ℕ} {costs : List ℕ} (forward : GoesOnward program) (so_far : Costs program (i + 1) costs) where
  onto : (p : ℕ) → i ≤ p → (i + 1 ≤ p) ⊎ (p ≡ i)
  onto p le = elim (cases_lt i p) [ inl a ↦ inl (omega arith) | inr b ↦ inr (omega arith) ]

  pub unreached : (IsReached program i → ⊥) → Costs program i costs
  unreached never = record {
    long = so_far.long;
    small = so_far.small;
    some = λ p le lt r. elim (onto p le) [ inl a ↦ so_far.some p a lt r | inr e ↦ absurd (never (subst (IsReached program) e r)) ];
    upper = λ p q le r leads lt. elim (onto p le) [ inl a ↦ so_far.upper p q a r leads lt | inr e ↦ absurd (never (subst (IsReached program) e r)) ];
    attained = λ p le lt r. elim (onto p le) [ inl a ↦ so_far.attained p a lt r | inr e ↦ absurd (never (subst (IsReached program) e r)) ];
  }

  module _ {o : Operation} (here : slice_get program.code i ≡ Some o) (reached : IsReached program i) where
    v : ℕ
    v = cost_at program o i costs

    later : (p q : ℕ) → i ≤ p → IsReached program p → Leads program p q → i < q
    later p q le r (o', at', inl (g, e)) = omega arith
    later p q le r (o', at', inr to) = let lt : p < q = forward p q o' r at' to in omega arith

    within : i < length costs
    within = omega (arith, slice_get_within program.code i o here, so_far.long)

    new_here : at (set costs i v) i ≡ v
    new_here = get_or-set_same costs i v 0 within

    new_other : (q : ℕ) → i < q → at (set costs i v) q ≡ at costs q
    new_other q lt = get_or-set_other costs i q v 0 (omega arith)

    -- a successor of i, with its cost
    follower_of : (p q : ℕ) → p ≡ i → Leads program p q → Follows program o i q
    follower_of p q e (o', at', f) =
        let same : o' ≡ o = cc (at', here, ap (slice_get program.code) e) in
        subst (λ (x : Operation). Follows program x i q) same (subst (λ (k : ℕ). Follows program o' k q) e f)

    v_small : v + i ≤ length program.code
    unfolding v
    v_small = elim (is_of_one program o i costs) [
      | inl e ↦ omega (arith, slice_get_within program.code i o here)
      | inr (q, f, e) ↦
          let lt : i < q = later i q (omega arith) reached (o, here, f) in
          elim (cases_lt q (length program.code)) [
            | inl a ↦ let b = so_far.small q a in omega arith
            | inr b ↦ let z : at costs q ≡ 0 = get_or_past costs q 0 (omega (arith, so_far.long)) in
                omega (arith, slice_get_within program.code i o here)
          ]
    ]

    v_some : 1 ≤ v
    unfolding v
    v_some = omega arith

    v_upper : (q : ℕ) → Follows program o i q → at costs q + 1 ≤ v
    unfolding v
    v_upper q f = follower program o i costs q f

    v_attained : (v ≡ 1) ⊎ ((q : ℕ) × (q < length program.code) × Leads program i q × (at costs q + 1 ≡ v))
    unfolding v
    v_attained = elim (is_of_one program o i costs) [
      | inl e ↦ inl e
      | inr (q, f, e) ↦ elim (cases_lt q (length program.code)) [
        | inl a ↦ inr (q, a, (o, here, f), e)
        | inr b ↦ let z : at costs q ≡ 0 = get_or_past costs q 0 (omega (arith, so_far.long)) in inl (omega arith)
      ]
    ]

    set_v : Costs program i (set costs i v)
    set_v = record {
      long = length-set costs i v ∙ so_far.long;
      small = λ p lt. elim (cases_lt p i) [
        | inl a ↦ let e : at (set costs i v) p ≡ at costs p = get_or-set_other costs i p v 0 (omega arith) in let b = so_far.small p lt in omega arith
        | inr le ↦ elim (onto p le) [
          | inl a ↦ let e = new_other p (omega arith) in let b = so_far.small p lt in omega arith
          | inr e ↦ let n = new_here in rw e (omega (arith, v_small))
        ]
      ];
      some = λ p le lt r. elim (onto p le) [
        | inl a ↦ let e = new_other p (omega arith) in let b = so_far.some p a lt r in omega arith
        | inr e ↦ let n = new_here in rw e (omega (arith, v_some))
      ];
      upper = λ p q le r leads lt.
          let eq = new_other q (later p q le r leads) in
          elim (onto p le) [
            | inl a ↦ let e = new_other p (omega arith) in let b = so_far.upper p q a r leads lt in omega arith
            | inr e ↦ let n = new_here in let b = v_upper q (follower_of p q e leads) in rw e (omega arith)
          ];
      attained = λ p le lt r. elim (onto p le) [
        | inl a ↦
            let e = new_other p (omega arith) in
            elim (so_far.attained p a lt r) [
              | inl one ↦ inl (e ∙ one)
              | inr (q, l, leads, c) ↦ inr (q, l, leads, ap (λ (k : ℕ). k + 1) (new_other q (later p q le r leads)) ∙ c ∙ sym e)
            ]
        | inr e ↦
            let n = new_here in
            rw e (elim v_attained [
              | inl one ↦ inl (n ∙ one)
              | inr (q, l, leads, c) ↦ inr (q, l, leads, ap (λ (k : ℕ). k + 1) (new_other q (later i q (omega arith) reached leads)) ∙ c ∙ sym n)
            ])
      ];
    }

    pub set_cost : Costs program i (set costs i (cost_at program o i costs))
    unfolding v
    set_cost = set_v

module _ {program : Program} {costs : List ℕ} (all : Costs program 0 costs) where
  along : (n q : ℕ) → Path program n q → q < length program.code → n + at costs q ≤ at costs 0
  along zero q e lt = rw e (omega arith)
  along (suc n) q (p, path, (o, here, f)) lt =
      let a = along n p path (slice_get_within program.code p o here) in
      let b = all.upper p q (omega arith) (n, path) (o, here, f) lt in
      omega arith

  pub most : (n q : ℕ) → Path program n q → q < length program.code → n + 1 ≤ at costs 0
  most n q path lt = let a = along n q path lt in let b = all.some q (omega arith) lt (n, path) in omega arith

  goes_on_to : (k n p : ℕ) → Path program n p → p < length program.code → at costs p ≡ suc k → (m q : ℕ)
      × Path program m q × (q < length program.code) × (m ≡ n + k)
  goes_on_to zero n p path lt e = (n, p, path, lt, omega arith)
  goes_on_to (suc k) n p path lt e = elim (all.attained p (omega arith) lt (n, path)) [
    | inl one ↦ absurd (omega arith)
    | inr (q, l, leads, c) ↦
        let r = goes_on_to k (suc n) q (p, path, leads) l (omega arith) in
        (r.0, r.1, r.2, r.3, omega (arith, r.4))
  ]

  pub attained : 0 < length program.code → (n q : ℕ) × Path program n q × (q < length program.code) × (n + 1 ≡ at costs 0)
  attained some =
      let one = all.some 0 (omega arith) some (0, refl) in
      let r = goes_on_to (at costs 0 - 1) 0 0 refl some (omega arith) in
      (r.0, r.1, r.2, r.3, omega (arith, r.4))
