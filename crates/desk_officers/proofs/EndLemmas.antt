-- A program of one instruction that ends the run may run.
use Rattle.std.proofs.Common.{◌≡◌, ◌<◌, ◌≤◌, ◌+◌, ◌^◌, [], ◌∷◌, ℕ, zero, suc, refl, arith, ap, ◌∙◌, sym, subst, inl}
use Rattle.std.proofs.Common.{inr, true, false, Option, Some, None}
use Rattle.std.specs.Prelude.{slice_get, ◌⊎◌, slice_index_or}
use Rattle.filing_image.specs.declared.instruction.Operation.{Operation}
use Rattle.filing_image.specs.declared.instruction.Operation.TheVariants.{Call}
use Rattle.filing_verify.specs.Flow.{jump_target, target, goes_on, Follows, Leads, Path}
use Rattle.filing_verify.specs.Shapes.{after}
use Rattle.filing_verify.specs.Well.{IsWell, InRange, is_call}
use Rattle.desk_officers.specs.Ends.{IsEnd, alone}

some_is : {A : Type 0} (x y : A) → Some x ≡ Some y → x ≡ y
some_is x y e = cc

-- an operation that ends a run: it neither jumps nor goes on, and leaves the stack as it is
pub record EndsRun (o : Operation) : Type 0 where
  pub stops : goes_on o ≡ false
  pub jumps_not : jump_target o ≡ None
  pub goes_nowhere : target (alone o) o ≡ None
  pub no_call : is_call o ≡ false
  pub leaves : after o [] ≡ Some []
  pub in_range : InRange (alone o) o

ends : (o : Operation) → IsEnd o → EndsRun o
ends o (inl e) = let P : Operation
    → Type 0 = EndsRun in
    subst P (sym e) (record {
      stops = refl;
      jumps_not = refl;
      goes_nowhere = refl;
      no_call = refl;
      leaves = refl;
      in_range = tt;
    })
ends o (inr e) = let P : Operation
    → Type 0 = EndsRun in
    subst P (sym e) (record {
      stops = refl;
      jumps_not = refl;
      goes_nowhere = refl;
      no_call = refl;
      leaves = refl;
      in_range = (omega arith, omega arith);
    })

only : (o q : Operation) (p : ℕ) → slice_get (o ∷ []) p ≡ Some q → q ≡ o
only o q zero e = sym (some_is o q e)
only o q (suc p) e = absurd cc

module _ (o : Operation) (e : EndsRun o) where
  follows_none : (p q : ℕ) → Follows (alone o) o p q → ⊥
  follows_none p q (inl h) = let f : true ≡ false = sym h.0 ∙ e.stops in cc
  follows_none p q (inr h) = let f : ◌≡◌ {A = Option ℕ} None (Some q) = sym e.goes_nowhere ∙ h in cc

  leads_none : (p q : ℕ) → Leads (alone o) p q → ⊥
  leads_none p q h = let P : Operation → Type 0 = λ x. Follows (alone o) x p q in follows_none p q (subst P (only o h.0 p h.1) h.2)

  short : (n q : ℕ) → Path (alone o) n q → n + 1 ≤ 1
  short zero q h = omega arith
  short (suc n) q h = absurd (leads_none h.0 q h.2)

  forward : (p q : ℕ) (x : Operation) → slice_get (o ∷ []) p ≡ Some x → jump_target x ≡ Some q → p < q
  forward p q x is h = let f : ◌≡◌ {A = Option ℕ} None (Some q) = sym e.jumps_not ∙ ap jump_target (sym (only o x p is)) ∙ h in absurd cc

  continues_none : (p q : ℕ) (x : Operation) → slice_get (o ∷ []) p ≡ Some x → ((goes_on x ≡ true) × (q ≡ p + 1)) ⊎ (jump_target x ≡ Some q) → ⊥
  continues_none p q x is (inl h) = let f : true ≡ false = sym h.0 ∙ ap goes_on (only o x p is) ∙ e.stops in cc
  continues_none p q x is (inr h) = let f : ◌≡◌ {A = Option ℕ} None (Some q) = sym e.jumps_not ∙ ap jump_target (sym (only o x p is)) ∙ h in cc

  in_range : (k : ℕ) (d : Operation) → k < 1 → InRange (alone o) (slice_index_or (o ∷ []) k d)
  in_range zero d h = e.in_range
  in_range (suc k) d h = absurd (omega (arith, h))

  pub well : IsWell (alone o)
  well = record {
    in_range = record { slots = omega arith; each = in_range; procedures = tt; jumps = λ i q x is h. refl };
    forward = record {
      jumps = λ p q x reached is h. forward p q x is h;
      calls = λ p b reached is. let c : true ≡ false = ap is_call (only o (Call b) p is) ∙ e.no_call in absurd cc;
    };
    shaped = (
      λ _. [],
      record {
        start = refl;
        each = λ p x reached is. record {
          result = [];
          finds = ap (λ y. after y []) (only o x p is) ∙ e.leaves;
          shallow = omega arith;
          shallow_after = omega arith;
          passed_on = λ q f lt. refl;
        };
      },
    );
    inside = record { some = omega arith; inside = λ p q reached leads. absurd (continues_none p q leads.0 leads.1 leads.2) };
    within = record { least = omega arith; most = omega arith; enough = λ n q path lt. short n q path };
  }

pub ends_well : (o : Operation) → IsEnd o → IsWell (alone o)
ends_well o h = well o (ends o h)
