-- In version 1 the rules accept and refuse as the rules before there were procedures.
use Rattle.std.proofs.Common.{◌≡◌, ℕ, zero, suc, ◌+◌, ◌-◌, ◌<◌, ◌≤◌, List, [], ◌∷◌, length, leb, get_or, Some, None}
use Rattle.std.proofs.Common.{refl, sym, ap, ◌∙◌, subst, arith, inl, inr}
use Rattle.std.specs.Prelude.{slice_get, ◌↔◌}
use Rattle.std.specs.List.{count_by}
use Rattle.std.proofs.lemmas.Bool.{cases_lt}
use Rattle.filing_image.specs.Program.{Program, first_places, firsts_of}
use Rattle.filing_image.specs.declared.instruction.Operation.{Operation}
use Rattle.filing_image.specs.declared.instruction.Operation.TheVariants.{Not, Join, Match, Pop, Less, Jump, JumpIf, JumpUnless, Call, Return}
use Rattle.filing_verify.specs.declared.kind.Kind.{Kind}
use Rattle.filing_verify.specs.declared.kind.Kind.TheVariants.{Truth, Texts, Count}
use Rattle.filing_verify.specs.declared.fault.VerifyFault.{VerifyFault}
use Rattle.filing_verify.specs.declared.fault.VerifyFault.TheVariants.{NoMemory, Operand, Backward, Stack, RunsOff, Budget}
use Rattle.filing_verify.specs.Flow.{jump_target, target, goes_on, Follows, Path, IsReached, procedure_of}
use Rattle.filing_verify.specs.Shapes.{after, HasShapes}
use Rattle.filing_verify.specs.Well.{InRange, HasProcedures, AreInRange, GoesForward, StaysInside, greatest_budget, Suffices, IsWithin, IsWell, Fails}
use Rattle.filing_verify.specs.VersionOne as one
use Rattle.filing_verify.proofs.Procedures.{in_range_at, stays}

-- an operation of version 1
abbrev IsOld : Operation → Type 0
IsOld (Call b) = ⊥
IsOld Return = ⊥
IsOld o = Unit {0}

goes_is : (o : Operation) → IsOld o → goes_on o ≡ one.goes_on o
goes_is Return old = absurd old
goes_is o old = refl

jump_is : (o : Operation) → jump_target o ≡ one.target o
jump_is (Jump b) = refl
jump_is (JumpIf b) = refl
jump_is (JumpUnless b) = refl
jump_is o = refl

after_is : (o : Operation) (ks : List Kind) → IsOld o → after o ks ≡ one.after o ks
after_is Not (Truth ∷ ks) old = refl
after_is Join (Texts ∷ Texts ∷ ks) old = refl
after_is (Match a b) (Texts ∷ ks) old = refl
after_is Pop (k ∷ ks) old = refl
after_is Less (Count ∷ Count ∷ ks) old = refl
after_is (JumpIf b) (Truth ∷ ks) old = refl
after_is (JumpUnless b) (Truth ∷ ks) old = refl
after_is (Call b) ks old = absurd old
after_is Return ks old = absurd old
after_is o ks old = refl

module _ (p : Program) (none : p.procedures ≡ None) where
  no_firsts : first_places p ≡ []
  no_firsts = ap firsts_of none

  in_one : (q : ℕ) → procedure_of p q ≡ 0
  in_one q = ap (λ (fs : List ℕ). count_by (λ f. leb f q) fs - 1) no_firsts

  target_is : (o : Operation) → target p o ≡ one.target o
  target_is (Call b) = ap (λ (fs : List ℕ). slice_get fs b) no_firsts
  target_is o = jump_is o

  not_there : (b : ℕ) → b < length (first_places p) → ⊥
  not_there b lt = let e : length (first_places p) ≡ 0 = ap length no_firsts in omega arith

  range_to : (o : Operation) → InRange p o → one.InRange p o
  range_to (Call b) h = not_there b h
  range_to Return h = not_there 0 h
  range_to o h = h

  range_from : (o : Operation) → one.InRange p o → InRange p o
  range_from (Call b) h = absurd h
  range_from Return h = absurd h
  range_from o h = h

  is_old : (o : Operation) → InRange p o → IsOld o
  is_old (Call b) h = not_there b h
  is_old Return h = not_there 0 h
  is_old o h = tt

  in_to : AreInRange p → one.AreInRange p
  in_to h = record { slots = h.slots; each = λ k d lt. range_to (get_or p.code k d) (h.each k d lt) }

  in_from : one.AreInRange p → AreInRange p
  in_from h = record {
    slots = h.slots;
    each = λ k d lt. range_from (get_or p.code k d) (h.each k d lt);
    procedures = subst (HasProcedures p) (sym none) tt;
    jumps = λ i q o at to. in_one q ∙ sym (in_one i);
  }

  module _ (in_range : AreInRange p) where
    old_at : (i : ℕ) (o : Operation) → slice_get p.code i ≡ Some o → IsOld o
    old_at i o at = is_old o (in_range_at p in_range i o at)

    follows_to : (o : Operation) (i q : ℕ) → IsOld o → Follows p o i q → one.Follows p o i q
    follows_to o i q old (inl (g, e)) = inl (sym (goes_is o old) ∙ g, e)
    follows_to o i q old (inr to) = inr (sym (target_is o) ∙ to)

    follows_from : (o : Operation) (i q : ℕ) → IsOld o → one.Follows p o i q → Follows p o i q
    follows_from o i q old (inl (g, e)) = inl (goes_is o old ∙ g, e)
    follows_from o i q old (inr to) = inr (target_is o ∙ to)

    path_to : (n q : ℕ) → Path p n q → one.Path p n q
    path_to zero q e = e
    path_to (suc n) q (i, path, (o, at, f)) = (i, path_to n i path, (o, at, follows_to o i q (old_at i o at) f))

    path_from : (n q : ℕ) → one.Path p n q → Path p n q
    path_from zero q e = e
    path_from (suc n) q (i, path, (o, at, f)) = (i, path_from n i path, (o, at, follows_from o i q (old_at i o at) f))

    reached_to : (q : ℕ) → IsReached p q → one.IsReached p q
    reached_to q (n, path) = (n, path_to n q path)

    reached_from : (q : ℕ) → one.IsReached p q → IsReached p q
    reached_from q (n, path) = (n, path_from n q path)

    forward_to : GoesForward p → one.GoesForward p
    forward_to h i q o r at to = h.jumps i q o (reached_from i r) at (jump_is o ∙ to)

    forward_from : one.GoesForward p → GoesForward p
    forward_from h = record {
      jumps = λ i q o r at to. h i q o (reached_to i r) at (sym (jump_is o) ∙ to);
      calls = λ i b r at. absurd (old_at i (Call b) at);
    }

    shapes_to : HasShapes p → one.HasShapes p
    shapes_to (shape, h) = (
      shape,
      record {
        start = h.start;
        each = λ i o r at.
            let f = h.each i o (reached_from i r) at in
            record {
              result = f.result;
              finds = sym (after_is o (shape i) (old_at i o at)) ∙ f.finds;
              shallow = f.shallow;
              shallow_after = f.shallow_after;
              passed_on = λ q g lt. f.passed_on q (follows_from o i q (old_at i o at) g) lt;
            };
      },
    )

    shapes_from : one.HasShapes p → HasShapes p
    shapes_from (shape, h) = (
      shape,
      record {
        start = h.start;
        each = λ i o r at.
            let f = h.each i o (reached_to i r) at in
            record {
              result = f.result;
              finds = after_is o (shape i) (old_at i o at) ∙ f.finds;
              shallow = f.shallow;
              shallow_after = f.shallow_after;
              passed_on = λ q g lt. f.passed_on q (follows_to o i q (old_at i o at) g) lt;
            };
      },
    )

    stays_to : StaysInside p → one.StaysInside p
    stays_to h = record { some = h.some; inside = never }
      where
        never : (i : ℕ) → one.IsReached p i → one.Leads p i (length p.code) → ⊥
        never i r (o, at, inl (g, e)) = let lt =
            (h.inside i (length p.code) (reached_from i r) (o, at, inl (goes_is o (old_at i o at) ∙ g, e))).0 in
            omega arith
        never i r (o, at, inr to) = let lt = (h.inside i (length p.code) (reached_from i r) (o, at, inr (jump_is o ∙ to))).0 in omega arith

    stays_from : one.StaysInside p → StaysInside p
    stays_from h = record {
      some = h.some;
      inside = stays p in_range (λ i within r on. elim (cases_lt (i + 1) (length p.code)) [
        | inl lt ↦ on.out (lt, in_one (i + 1) ∙ sym (in_one i))
        | inr past ↦
            let end : length p.code ≡ i + 1 = omega arith in
            h.inside i (reached_to i r) (on.operation, on.here, inl (sym (goes_is on.operation (old_at i on.operation on.here)) ∙ on.goes, end))
      ]);
    }

    greatest : greatest_budget p.procedures ≡ 65535
    greatest = ap greatest_budget none

    within_to : IsWithin p → one.IsWithin p
    within_to h =
        let most : p.budget ≤ 65535 = rw greatest at h.most in
        let paths = subst (Suffices p) none h.enough in
        record { least = h.least; most = omega arith; paths = λ n q path lt. paths n q (path_from n q path) lt }

    within_from : one.IsWithin p → IsWithin p
    within_from h =
        let most : p.budget ≤ 65535 = omega (arith, h.most) in
        record { least = h.least; most = rw greatest most; enough = subst (Suffices p) (sym none) (λ n q path lt. h.paths n q (path_to n q path) lt) }

  well_to : IsWell p → one.IsWell p
  well_to h = record {
    in_range = in_to h.in_range;
    forward = forward_to h.in_range h.forward;
    shaped = shapes_to h.in_range h.shaped;
    inside = stays_to h.in_range h.inside;
    within = within_to h.in_range h.within;
  }

  well_from : one.IsWell p → IsWell p
  well_from h =
      let r = in_from h.in_range in
      record {
        in_range = r;
        forward = forward_from r h.forward;
        shaped = shapes_from r h.shaped;
        inside = stays_from r h.inside;
        within = within_from r h.within;
      }

  fails_to : (fault : VerifyFault) → Fails fault p → one.Fails fault p
  fails_to NoMemory h = in_to h
  fails_to Operand h = λ r. h (in_from r)
  fails_to Backward (r, h) = (in_to r, λ f. h (forward_from r f))
  fails_to Stack (r, f, h) = (in_to r, forward_to r f, λ s. h (shapes_from r s))
  fails_to RunsOff (r, f, s, h) = (in_to r, forward_to r f, shapes_to r s, λ i. h (stays_from r i))
  fails_to Budget (r, f, s, i, h) = (in_to r, forward_to r f, shapes_to r s, stays_to r i, λ w. h (within_from r w))

  fails_from : (fault : VerifyFault) → one.Fails fault p → Fails fault p
  fails_from NoMemory h = in_from h
  fails_from Operand h = λ r. h (in_to r)
  fails_from Backward (r, h) = let n = in_from r in (n, λ f. h (forward_to n f))
  fails_from Stack (r, f, h) = let n = in_from r in (n, forward_from n f, λ s. h (shapes_to n s))
  fails_from RunsOff (r, f, s, h) = let n = in_from r in (n, forward_from n f, shapes_from n s, λ i. h (stays_to n i))
  fails_from Budget (r, f, s, i, h) = let n = in_from r in (n, forward_from n f, shapes_from n s, stays_from n i, λ w. h (within_to n w))

pub accepted : (p : Program) → p.procedures ≡ None → (IsWell p ↔ one.IsWell p)
accepted p none = (well_to p none, well_from p none)

pub refused : (fault : VerifyFault) (p : Program) → p.procedures ≡ None → (Fails fault p ↔ one.Fails fault p)
refused fault p none = (fails_to p none fault, fails_from p none fault)
