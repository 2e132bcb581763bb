-- Shapes are passed on to the successors.
use Rattle.std.proofs.Common.{◌≡◌, ℕ, zero, suc, ◌+◌, ◌<◌, ◌≤◌, List, [], length, reverse, true, Option, Some, None}
use Rattle.std.proofs.Common.{sym, ap, ◌∙◌, subst, arith, inl, inr, ◌⊎◌}
use Rattle.std.specs.Prelude.{slice_get}
use Rattle.std.proofs.lemmas.List.{reverse-reverse}
use Rattle.std.proofs.lemmas.Option.{slice_get_within, slice_get_past}
use Rattle.std.proofs.lemmas.Bool.{cases_lt}
use Rattle.filing_image.specs.Program.{Program}
use Rattle.filing_image.specs.declared.instruction.Operation.{Operation}
use Rattle.filing_verify.specs.declared.kind.Kind.{Kind}
use Rattle.filing_verify.specs.Flow.{target, goes_on, Follows, Path}
use Rattle.filing_verify.specs.Shapes.{after, IsFine, IsAssignment, HasShapes}
use Rattle.filing_verify.specs.Passes.{GoesOnward, Has, Takes, Clashes, Shaping}

pub reverse_same : {A : Type 0} {xs ys : List A} → reverse xs ≡ reverse ys → xs ≡ ys
reverse_same {xs} {ys} e = sym (reverse-reverse xs) ∙ ap reverse e ∙ reverse-reverse ys

abbrev Table : Type 0
Table = List (Option (List Kind))

-- ---- one place after another

module _ (program : Program) (o : Operation) (p : ℕ) {b : ℕ} {r : List Kind} {old mid : Table} (to : target program o ≡ Some b)
    (first : Takes old (λ q. q ≡ b) r mid) where
  pub takes_both : {new : Table} → Takes mid (λ q. (goes_on o ≡ true) × (q ≡ p + 1)) r new → Takes old (Follows program o p) r new
  takes_both second = record {
    long = second.long ∙ first.long;
    offered = λ q f lt. elim f [
      | inl n ↦ second.offered q n (omega (arith, first.long))
      | inr t ↦ let e : q ≡ b = cc (t, to) in second.kept q r (first.offered q e lt)
    ];
    kept = λ q ks h. second.kept q ks (first.kept q ks h);
    only = λ q ks h. elim (second.only q ks h) [
      | inl m ↦ elim (first.only q ks m) [ inl a ↦ inl a | inr (e, same) ↦ inr (inr (to ∙ ap Some (sym e)), same) ]
      | inr (n, same) ↦ inr (inl n, same)
    ];
  }

-- ---- the pass

module _ {program : Program} {i : ℕ} {table : Table} (forward : GoesOnward program) (so_far : Shaping program i table) where
  upto : (p : ℕ) → p < i + 1 → (p < i) ⊎ (p ≡ i)
  upto p lt = elim (cases_lt p i) [ inl a ↦ inl a | inr b ↦ inr (omega arith) ]

  pub skipped : slice_get table i ≡ Some None → Shaping program (i + 1) table
  skipped none = record {
    long = so_far.long;
    first = so_far.first;
    reached = so_far.reached;
    shallow = so_far.shallow;
    forced = so_far.forced;
    passed = λ p ks o lt h at. elim (upto p lt) [
      | inl a ↦ so_far.passed p ks o a h at
      | inr e ↦ let h' : Has table i ks = subst (λ (k : ℕ). Has table k ks) e h in absurd cc
    ];
  }

  module _ {ks : List Kind} {o : Operation} (here : Has table i ks) (at : slice_get program.code i ≡ Some o) where
    fine : (shape : ℕ → List Kind) (good : IsAssignment program shape) → IsFine program shape i o
    fine shape good = good.each i o (so_far.reached i ks here) at

    -- what any assignment has after the operation
    then_is : (shape : ℕ → List Kind) (good : IsAssignment program shape) → after o ks ≡ Some ((fine shape good).result)
    then_is shape good = ap (after o) (sym (so_far.forced i ks here shape good)) ∙ (fine shape good).finds

    pub lacks : after o ks ≡ None → HasShapes program → ⊥
    lacks none (shape, good) = let e = then_is shape good in cc

    module _ {r : List Kind} (finds : after o ks ≡ Some r) where
      forced_after : (shape : ℕ → List Kind) (good : IsAssignment program shape) → (fine shape good).result ≡ r
      forced_after shape good = let e = then_is shape good in cc

      pub too_deep : 32 < length r → HasShapes program → ⊥
      too_deep deep (shape, good) =
          let f = fine shape good in
          let e : f.result ≡ r = forced_after shape good in
          omega (arith, f.shallow_after, ap length e)

      pub clashes : Clashes table (Follows program o i) r → HasShapes program → ⊥
      clashes d (shape, good) =
          let f = fine shape good in
          let within : d.place < length program.code = omega (arith, slice_get_within table d.place (Some d.other) d.there, so_far.long) in
          d.differs (sym (so_far.forced d.place d.other d.there shape good) ∙ f.passed_on d.place d.named within ∙ forced_after shape good)

      module _ (shallow : length r ≤ 32) {new : Table} (takes : Takes table (Follows program o i) r new) where
        later : (q : ℕ) → Follows program o i q → i < q
        later q (inl (g, e)) = omega arith
        later q (inr to) = forward i q o (so_far.reached i ks here) at to

        old_one : (p : ℕ) (js : List Kind) → p < i + 1 → Has new p js → Has table p js
        old_one p js lt h = elim (takes.only p js h) [
          | inl a ↦ a
          | inr (f, e) ↦ let less : i < p = later p f in absurd (omega arith)
        ]

        pub passed_on : Shaping program (i + 1) new
        passed_on = record {
          long = takes.long ∙ so_far.long;
          first = λ some. takes.kept 0 [] (so_far.first some);
          reached = λ p js h. elim (takes.only p js h) [
            | inl a ↦ so_far.reached p js a
            | inr (f, e) ↦ let way = so_far.reached i ks here in (suc way.0, (i, way.1, (o, at, f)))
          ];
          shallow = λ p js h. elim (takes.only p js h) [
            | inl a ↦ so_far.shallow p js a
            | inr (f, e) ↦ rw e shallow
          ];
          forced = λ p js h shape good. elim (takes.only p js h) [
            | inl a ↦ so_far.forced p js a shape good
            | inr (f, e) ↦
                let within : p < length program.code = omega (arith, slice_get_within new p (Some js) h, takes.long, so_far.long) in
                (fine shape good).passed_on p f within ∙ forced_after shape good ∙ sym e
          ];
          passed = λ p js o' lt h at'. elim (upto p lt) [
            | inl a ↦
                let was = so_far.passed p js o' a (old_one p js lt h) at' in
                (was.0, was.1, was.2, λ q f within. takes.kept q was.0 (was.3 q f within))
            | inr e ↦
                let h' : Has table i js = subst (λ (k : ℕ). Has table k js) e (old_one p js lt h) in
                let same : o' ≡ o = cc (at', at, ap (slice_get program.code) e) in
                let js-is : js ≡ ks = cc (h', here) in (
                  r,
                  rw (same, js-is) finds,
                  shallow,
                  λ q f within.
                      takes.offered q (subst (λ (x : Operation).
                      Follows program x i q) same (subst (λ (k : ℕ). Follows program o' k q) e f)) (omega (
                        arith,
                        so_far.long,
                      )),
                )
          ];
        }

-- ---- the end

shape_at : Option (Option (List Kind)) → List Kind
shape_at None = []
shape_at (Some None) = []
shape_at (Some (Some ks)) = ks

module _ {program : Program} {table : Table} (all : Shaping program (length program.code) table) where
  has : (n q : ℕ) → Path program n q → q < length program.code → (ks : List Kind) × Has table q ks
  has zero q e lt = ([], subst (λ (k : ℕ). Has table k []) (sym e) (all.first (omega arith)))
  has (suc n) q (p, path, (o, at, f)) lt =
      let within : p < length program.code = slice_get_within program.code p o at in
      let here = has n p path within in
      let then = all.passed p here.0 o within here.1 at in
      (then.0, then.3 q f lt)

  assigned : ℕ → List Kind
  assigned q = shape_at (slice_get table q)

  is_assigned : (q : ℕ) (ks : List Kind) → Has table q ks → assigned q ≡ ks
  unfolding assigned shape_at
  is_assigned q ks h = ap shape_at h

  at_start : assigned 0 ≡ []
  unfolding assigned shape_at
  at_start = elim (cases_lt 0 (length program.code)) [
    | inl some ↦ ap shape_at (all.first some)
    | inr none ↦ ap shape_at (slice_get_past table 0 (omega (arith, all.long)))
  ]

  pub has_shapes : HasShapes program
  has_shapes = (
    assigned,
    record {
      start = at_start;
      each = λ p o reached at.
          let within : p < length program.code = slice_get_within program.code p o at in
          let here = has reached.0 p reached.1 within in
          let then = all.passed p here.0 o within here.1 at in
          record {
            result = then.0;
            finds = ap (after o) (is_assigned p here.0 here.1) ∙ then.1;
            shallow = rw (is_assigned p here.0 here.1) (all.shallow p here.0 here.1);
            shallow_after = then.2;
            passed_on = λ q f lt. is_assigned q then.0 (then.3 q f lt);
          };
    },
  )
