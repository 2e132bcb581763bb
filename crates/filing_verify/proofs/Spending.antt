-- Costs, from the last place to the first.
use Rattle.std.proofs.Common.{◌≡◌, ℕ, suc, ◌+◌, ◌<◌, ◌≤◌, Bool, true, false, cond, eqb, List, length, Option, Some}
use Rattle.std.proofs.Common.{None, refl, sym, ap, ◌∙◌, subst, arith, inl, inr, ◌⊎◌, set, eq-eqb}
use Rattle.std.specs.Prelude.{slice_get, min}
use Rattle.std.proofs.Math.ListN.{length-set}
use Rattle.std.proofs.lemmas.List.{get_or-set_same, get_or-set_other, get_or_past}
use Rattle.std.proofs.lemmas.Option.{slice_get_within}
use Rattle.std.proofs.lemmas.Bool.{cases_lt, eqb-true}
use Rattle.filing_image.specs.Program.{Program}
use Rattle.filing_image.specs.declared.instruction.Operation.{Operation}
use Rattle.filing_verify.specs.Flow.{target, goes_on, Follows, IsReached}
use Rattle.filing_verify.specs.Well.{is_call, together, next_cost, target_cost, cost_by, AreCosts}
use Rattle.filing_verify.specs.Passes.{GoesOnward, LeadsInside, AreCostsFrom, cost_in, too_much, Costing}

-- ---- one operation

same_next : (g : Bool) (p : ℕ) (c d : ℕ → ℕ) → (g ≡ true → c (p + 1) ≡ d (p + 1)) → next_cost g p c ≡ next_cost g p d
same_next true p c d h = h refl
same_next false p c d h = refl

same_target : (t : Option ℕ) (c d : ℕ → ℕ) → ((q : ℕ) → t ≡ Some q → c q ≡ d q) → target_cost t c ≡ target_cost t d
same_target None c d h = refl
same_target (Some q) c d h = h q refl

-- the costs of the successors decide
pub same_cost : (program : Program) (o : Operation) (p : ℕ) (c d : ℕ → ℕ)
    → ((q : ℕ) → Follows program o p q → c q ≡ d q) → cost_by program c p o ≡ cost_by program d p o
same_cost program o p c d h =
    let next = same_next (goes_on o) p c d (λ g. h (p + 1) (inl (g, refl))) in
    let to = same_target (target program o) c d (λ q t. h q (inr t)) in
    ap (λ (x : ℕ). 1 + together (is_call o) x (target_cost (target program o) c)) next
    ∙ ap (λ (y : ℕ). 1 + together (is_call o) (next_cost (goes_on o) p d) y) to

capped_next : (g : Bool) (p t : ℕ) (c d : ℕ → ℕ) → (g ≡ true → c (p + 1) ≡ min (d (p + 1)) t) → next_cost g p c ≡ min (next_cost g p d) t
capped_next true p t c d h = h refl
capped_next false p t c d h = omega arith

capped_target : (x : Option ℕ) (t : ℕ) (c d : ℕ → ℕ) → ((q : ℕ) → x ≡ Some q → c q ≡ min (d q) t) → target_cost x c ≡ min (target_cost x d) t
capped_target None t c d h = omega arith
capped_target (Some q) t c d h = h q refl

capped : (b : Bool) (x y u v t : ℕ) → x ≡ min u t → y ≡ min v t → min (1 + together b x y) t ≡ min (1 + together b u v) t
capped true x y u v t e f = omega arith
capped false x y u v t e f = omega arith

-- costs up to a number, by costs up to it
pub capped_cost : (program : Program) (o : Operation) (p t : ℕ) (c d : ℕ → ℕ)
    → ((q : ℕ) → Follows program o p q → c q ≡ min (d q) t)
    → min (cost_by program c p o) t ≡ min (cost_by program d p o) t
capped_cost program o p t c d h =
    capped (is_call o) (next_cost (goes_on o) p c) (target_cost (target program o) c) (next_cost (goes_on o) p d) (target_cost (target program o) d) t
    (capped_next (goes_on o) p t c d (λ g. h (p + 1) (inl (g, refl))))
    (capped_target (target program o) t c d (λ q e. h q (inr e)))

-- ---- one place after another

-- before the first place is looked at, and nothing is known
pub begins : (program : Program) (costs : List ℕ) (n : ℕ) → n ≡ length program.code → length costs ≡ length program.code
    → ((k : ℕ) → k < length program.code → cost_in costs k ≡ 0) → Costing program n costs
begins program costs n many long zero = record {
  long = long;
  small = λ k. elim (cases_lt k (length program.code)) [
    | inl lt ↦ let e = zero k lt in omega arith
    | inr past ↦ let e : cost_in costs k ≡ 0 = get_or_past costs k 0 (omega arith) in omega arith
  ];
  there = (λ _. 0, λ p o le r at. absurd (omega (arith, slice_get_within program.code p o at)));
  are = λ cost from p le lt r. absurd (omega arith);
}

module _ {program : Program} {i : ℕ} {costs : List ℕ} (onward : GoesOnward program) (inside : LeadsInside program)
    (so_far : Costing program (i + 1) costs) where
  onto : (p : ℕ) → i ≤ p → (i + 1 ≤ p) ⊎ (p ≡ i)
  onto p le = elim (cases_lt i p) [ inl a ↦ inl (omega arith) | inr b ↦ inr (omega arith) ]

  fewer : (cost : ℕ → ℕ) → AreCostsFrom program i cost → AreCostsFrom program (i + 1) cost
  fewer cost from p o le r at = from p o (omega arith) r at

  pub unreached : (IsReached program i → ⊥) → Costing program i costs
  unreached never = record {
    long = so_far.long;
    small = so_far.small;
    there = (
      so_far.there.0,
      λ p o le r at. elim (onto p le) [
        | inl a ↦ so_far.there.1 p o a r at
        | inr e ↦ absurd (never (subst (IsReached program) e r))
      ],
    );
    are = λ cost from p le lt r. elim (onto p le) [
      | inl a ↦ so_far.are cost (fewer cost from) p a lt r
      | inr e ↦ absurd (never (subst (IsReached program) e r))
    ];
  }

  module _ {o : Operation} (here : slice_get program.code i ≡ Some o) (reached : IsReached program i) where
    later : (p q : ℕ) (x : Operation) → i ≤ p → IsReached program p → slice_get program.code p ≡ Some x → Follows program x p q → i < q
    later p q x le r at (inl (g, e)) = omega arith
    later p q x le r at (inr to) = let lt : p < q = onward p q x r at to in omega arith

    -- the cost of place i is by the costs that are there
    old : ℕ → ℕ
    old = so_far.there.0

    new : ℕ → ℕ
    new = λ k. cond (eqb k i) (cost_by program old i o) (old k)

    new_here : new i ≡ cost_by program old i o
    unfolding new
    new_here = rw (eq-eqb i i refl) refl

    other_by : (k : ℕ) (b : Bool) → eqb k i ≡ b → (k ≡ i → ⊥) → cond b (cost_by program old i o) (old k) ≡ old k
    other_by k true e ne = absurd (ne (eqb-true k i e))
    other_by k false e ne = refl

    new_other : (k : ℕ) → i < k → new k ≡ old k
    unfolding new
    new_other k lt = other_by k (eqb k i) refl (λ e. omega arith)

    new_follows : (p : ℕ) (x : Operation) → i ≤ p → IsReached program p → slice_get program.code p ≡ Some x
        → cost_by program old p x ≡ cost_by program new p x
    new_follows p x le r at = same_cost program x p old new (λ q f. sym (new_other q (later p q x le r at f)))

    was : AreCostsFrom program (i + 1) old
    unfolding old
    was = so_far.there.1

    new_costs : AreCostsFrom program i new
    new_costs p x le r at = elim (onto p le) [
      | inl a ↦ new_other p (omega arith) ∙ was p x a r at ∙ new_follows p x le r at
      | inr e ↦
          let same : x ≡ o = cc (at, here, ap (slice_get program.code) e) in
          ap new e ∙ new_here ∙ ap (λ (k : ℕ). cost_by program old k o) (sym e)
          ∙ ap (λ (y : Operation). cost_by program old p y) (sym same) ∙ new_follows p x le r at
    ]

    v : ℕ
    v = min (cost_by program (cost_in costs) i o) too_much

    within : i < length costs
    within = omega (arith, slice_get_within program.code i o here, so_far.long)

    v_here : cost_in (set costs i v) i ≡ v
    v_here = get_or-set_same costs i v 0 within

    v_below : (q : ℕ) → q < i → cost_in (set costs i v) q ≡ cost_in costs q
    v_below q lt = get_or-set_other costs i q v 0 (omega arith)

    v_above : (q : ℕ) → i < q → cost_in (set costs i v) q ≡ cost_in costs q
    v_above q lt = get_or-set_other costs i q v 0 (omega arith)

    v_small : v ≤ too_much
    unfolding v
    v_small = omega arith

    v_is : (cost : ℕ → ℕ) → AreCostsFrom program i cost → v ≡ min (cost i) too_much
    unfolding v
    v_is cost from =
        capped_cost program o i too_much (cost_in costs) cost (λ q f.
        so_far.are cost (fewer cost from) q (omega (arith, later i q o (omega arith) reached here f))
        (inside i q reached (o, here, f)) (goes_to q f))
        ∙ ap (λ (n : ℕ). min n too_much) (sym (from i o (omega arith) reached here))
      where
        goes_to : (q : ℕ) → Follows program o i q → IsReached program q
        goes_to q f = (suc reached.0, (i, reached.1, (o, here, f)))

    set_v : Costing program i (set costs i v)
    set_v = record {
      long = length-set costs i v ∙ so_far.long;
      small = λ p. elim (cases_lt p i) [
        | inl a ↦ let e = v_below p a in let b = so_far.small p in omega arith
        | inr b ↦ elim (onto p b) [
          | inl a ↦ let e = v_above p (omega arith) in let s = so_far.small p in omega arith
          | inr e ↦ let h = v_here in rw e (omega (arith, v_small))
        ]
      ];
      there = (new, new_costs);
      are = λ cost from p le lt r. elim (onto p le) [
        | inl a ↦ v_above p (omega arith) ∙ so_far.are cost (fewer cost from) p a lt r
        | inr e ↦ rw e (v_here ∙ v_is cost from)
      ];
    }

    pub set_cost : Costing program i (set costs i (min (cost_by program (cost_in costs) i o) too_much))
    unfolding v
    set_cost = set_v

-- ---- the end

module _ {program : Program} {costs : List ℕ} (all : Costing program 0 costs) where
  pub there : (cost : ℕ → ℕ) × AreCosts program cost
  there = (all.there.0, λ p o r at. all.there.1 p o (omega arith) r at)

  pub is : 0 < length program.code → (cost : ℕ → ℕ) → AreCosts program cost → cost_in costs 0 ≡ min (cost 0) too_much
  is some cost costs_are = all.are cost (λ p o le r at. costs_are p o r at) 0 (omega arith) some (0, refl)
