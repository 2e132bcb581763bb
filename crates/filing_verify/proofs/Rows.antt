-- A small program with procedures: it may run, and each of five changes breaks one rule.
use Rattle.std.proofs.Common.{◌≡◌, ◌≢◌, ℕ, zero, suc, ◌+◌, ◌<◌, true, max, [], ◌∷◌, get_or, Some, None, refl, sym, ap, ◌∙◌, arith, inl, inr}
use Rattle.std.specs.Prelude.{slice_get}
use Rattle.filing_image.specs.declared.instruction.Operation.{Operation}
use Rattle.filing_image.specs.declared.instruction.Operation.TheVariants.{PushTrue, Keep, Discard, Stop, Jump, Call, Return}
use Rattle.filing_image.specs.Program.{Program, parts}
use Rattle.filing_image.specs.Spelling.{spelling}
use Rattle.filing_verify.specs.declared.kind.Kind.TheVariants.{Truth}
use Rattle.filing_verify.specs.declared.fault.VerifyFault.TheVariants.{Operand, Backward, Stack, RunsOff, Budget}
use Rattle.filing_verify.specs.Flow.{jump_target, goes_on, IsReached, Continues, procedure_of}
use Rattle.filing_verify.specs.Shapes.{after, HasShapes}
use Rattle.filing_verify.specs.Well.{InRange, Ascends, AreFirstPlaces, AreInRange, GoesForward, StaysInside, AreCosts, Suffices, IsWell, Fails}
use Rattle.filing_verify.specs.Passes.{cost_in}

-- procedure 0 has places 0 and 1, and procedure 1 has places 2 and 3
abbrev program : ℕ → Operation → Operation → Operation → Program
program budget a c d = record { budget = budget; texts = []; numbers = []; slots = 0; procedures = Some (0 ∷ 2 ∷ []); code = a ∷ Stop ∷ c ∷ d ∷ [] }

-- procedure 0 calls procedure 1, and stops
abbrev calling : ℕ → Operation → Operation → Program
calling budget = program budget (Call 1)

-- procedure 1 discards, and returns
abbrev worked : Program
worked = calling 4 Discard Return

-- its octets: the mark, the budget, five counts, two first places, four instructions
octets : spelling (parts worked) ≡ 0x53 ∷ 0x46 ∷ 0x49 ∷ 0x32 ∷ 0 ∷ 0 ∷ 0 ∷ 4 ∷ 0 ∷ 0 ∷ 0 ∷ 0 ∷ 0 ∷ 0 ∷ 0 ∷ 2 ∷ 0 ∷ 4 ∷ 0
    ∷ 0 ∷ 0 ∷ 2 ∷ 0x16 ∷ 0 ∷ 0 ∷ 1 ∷ 0x14 ∷ 0 ∷ 0 ∷ 0 ∷ 0x13 ∷ 0 ∷ 0 ∷ 0 ∷ 0x17 ∷ 0 ∷ 0 ∷ 0 ∷ []
unfolding spelling
octets = refl

-- ---- its procedures and its range

ascends : Ascends (0 ∷ 2 ∷ [])
ascends zero lt = omega arith
ascends (suc i) lt = absurd (omega arith)

within : (k d : ℕ) → k < 2 → get_or (0 ∷ 2 ∷ []) k d < 4
within zero d lt = omega arith
within (suc zero) d lt = omega arith
within (suc (suc k)) d lt = absurd (omega arith)

procedures : AreFirstPlaces 4 (0 ∷ 2 ∷ [])
procedures = record { some = omega arith; most = omega arith; start = refl; ascending = ascends; within = within }

same_jump : (x o : Operation) → Some x ≡ Some o → jump_target x ≡ jump_target o
same_jump x o e = let same : x ≡ o = cc in ap jump_target same

same_way : (x o : Operation) → Some x ≡ Some o → goes_on x ≡ goes_on o
same_way x o e = let same : x ≡ o = cc in ap goes_on same

module _ (budget : ℕ) (c d : Operation) where
  at_start : IsReached (calling budget c d) 0
  at_start = (0, refl)

  after_call : IsReached (calling budget c d) 1
  after_call = (1, (0, refl, (Call 1, refl, inl (refl, refl))))

  in_callee : IsReached (calling budget c d) 2
  in_callee = (1, (0, refl, (Call 1, refl, inr refl)))

  at_end : goes_on c ≡ true → IsReached (calling budget c d) 3
  at_end on = (2, (2, (0, refl, (Call 1, refl, inr refl)), (c, refl, inl (on, refl))))

  module _ (c_stays : jump_target c ≡ None) (d_stays : jump_target d ≡ None) where
    no_jump : (i q : ℕ) (o : Operation) → slice_get (calling budget c d).code i ≡ Some o → jump_target o ≡ Some q → ⊥
    no_jump zero q o at to = let e = same_jump (Call 1) o at in absurd cc
    no_jump (suc zero) q o at to = let e = same_jump Stop o at in absurd cc
    no_jump (suc (suc zero)) q o at to = let e = same_jump c o at in absurd cc
    no_jump (suc (suc (suc zero))) q o at to = let e = same_jump d o at in absurd cc
    no_jump (suc (suc (suc (suc i)))) q o at to = absurd cc

    module _ (c_in : InRange (calling budget c d) c) (d_in : InRange (calling budget c d) d) where
      each : (k : ℕ) (o : Operation) → k < 4 → InRange (calling budget c d) (get_or (calling budget c d).code k o)
      each zero o lt = omega arith
      each (suc zero) o lt = tt
      each (suc (suc zero)) o lt = c_in
      each (suc (suc (suc zero))) o lt = d_in
      each (suc (suc (suc (suc k)))) o lt = absurd (omega arith)

      in_range : AreInRange (calling budget c d)
      in_range = record { slots = omega arith; each = each; procedures = procedures; jumps = λ i q o at to. absurd (no_jump i q o at to) }

    -- procedure 0 calls procedure 1, which calls nothing
    module _ (c_plain : (b : ℕ) → Call b ≢ c) (d_plain : (b : ℕ) → Call b ≢ d) where
      calls_forward : (i b : ℕ) → slice_get (calling budget c d).code i ≡ Some (Call b) → procedure_of (calling budget c d) i < b
      calls_forward zero b at = let e : b ≡ 1 = cc in omega arith
      calls_forward (suc zero) b at = absurd cc
      calls_forward (suc (suc zero)) b at = let e : Call b ≡ c = cc in absurd (c_plain b e)
      calls_forward (suc (suc (suc zero))) b at = let e : Call b ≡ d = cc in absurd (d_plain b e)
      calls_forward (suc (suc (suc (suc i)))) b at = absurd cc

      forward : GoesForward (calling budget c d)
      forward = record { jumps = λ i q o reached at to. absurd (no_jump i q o at to); calls = λ i b reached at. calls_forward i b at }

-- ---- the empty shape at each place

module _ (budget : ℕ) (d : Operation) (d_leaves : after d [] ≡ Some []) where
  leaves : (i : ℕ) (o : Operation) → slice_get (calling budget Discard d).code i ≡ Some o → after o [] ≡ Some []
  leaves zero o at = let e : Call 1 ≡ o = cc in ap (λ (x : Operation). after x []) (sym e)
  leaves (suc zero) o at = let e : Stop ≡ o = cc in ap (λ (x : Operation). after x []) (sym e)
  leaves (suc (suc zero)) o at = let e : Discard ≡ o = cc in ap (λ (x : Operation). after x []) (sym e)
  leaves (suc (suc (suc zero))) o at = let e : d ≡ o = cc in ap (λ (x : Operation). after x []) (sym e) ∙ d_leaves
  leaves (suc (suc (suc (suc i)))) o at = absurd cc

  shaped : HasShapes (calling budget Discard d)
  shaped = (
    λ i. [],
    record {
      start = refl;
      each = λ i o reached at. record {
        result = [];
        finds = leaves i o at;
        shallow = omega arith;
        shallow_after =
            omega arith;
        passed_on = λ q f lt. refl;
      };
    },
  )

-- ---- inside its procedures

inside : (budget i q : ℕ) → Continues (calling budget Discard Return) i q → (q < 4)
    × (procedure_of (calling budget Discard Return) q ≡ procedure_of (calling budget Discard Return) i)
inside budget i q (o, at, inr to) = absurd (no_jump budget Discard Return refl refl i q o at to)
inside budget zero q (o, at, inl (g, e)) = rw e (omega arith, refl)
inside budget (suc zero) q (o, at, inl (g, e)) = let f = same_way Stop o at in absurd cc
inside budget (suc (suc zero)) q (o, at, inl (g, e)) = rw e (omega arith, refl)
inside budget (suc (suc (suc zero))) q (o, at, inl (g, e)) = let f = same_way Return o at in absurd cc
inside budget (suc (suc (suc (suc i)))) q (o, at, inl (g, e)) = absurd cc

stays : (budget : ℕ) → StaysInside (calling budget Discard Return)
stays budget = record { some = omega arith; inside = λ i q reached on. inside budget i q on }

-- ---- its costs: a call costs a step, what its procedure costs, and what follows it

abbrev costs : ℕ → ℕ
costs = cost_in (4 ∷ 1 ∷ 2 ∷ 1 ∷ [])

are_costs : AreCosts worked costs
are_costs zero o reached at = let e : Call 1 ≡ o = cc in rw (← e) refl
are_costs (suc zero) o reached at = let e : Stop ≡ o = cc in rw (← e) refl
are_costs (suc (suc zero)) o reached at = let e : Discard ≡ o = cc in rw (← e) refl
are_costs (suc (suc (suc zero))) o reached at = let e : Return ≡ o = cc in rw (← e) refl
are_costs (suc (suc (suc (suc i)))) o reached at = absurd cc

-- ---- it may run

may_run : IsWell worked
may_run = record {
  in_range = in_range 4 Discard Return refl refl tt (omega arith);
  forward = forward 4 Discard Return refl refl (λ b e. absurd cc) (λ b e. absurd cc);
  shaped = shaped 4 Return refl;
  inside = stays 4;
  within = record { least = omega arith; most = omega arith; enough = (costs, are_costs, omega arith) };
}

-- ---- five changes

-- the budget is one less than the cost of place 0
too_dear : Suffices (calling 3 Discard Return) (Some (0 ∷ 2 ∷ [])) → ⊥
too_dear (cost, are, enough) =
    let last : cost 3 ≡ 1 = are 3 Return (at_end 3 Discard Return refl) refl in
    let callee : cost 2 ≡ 1 + max (cost 3) 0 = are 2 Discard (in_callee 3 Discard Return) refl in
    let stop : cost 1 ≡ 1 = are 1 Stop (after_call 3 Discard Return) refl in
    let call : cost 0 ≡ 1 + (cost 1 + cost 2) = are 0 (Call 1) (at_start 3 Discard Return) refl in
    absurd (omega arith)

budget_of_three : Fails Budget (calling 3 Discard Return)
budget_of_three = (
  in_range 3 Discard Return refl refl tt (omega arith),
  forward 3 Discard Return refl refl (λ b e. absurd cc) (λ b e. absurd cc),
  shaped 3 Return refl,
  stays 3,
  λ w. too_dear w.enough,
)

-- there is no procedure 2
call_of_no_procedure : Fails Operand (program 4 (Call 2) Discard Return)
call_of_no_procedure r = let two : 2 < 2 = r.each 0 Stop (omega arith) in absurd (omega arith)

-- place 2 is in another procedure
jump_to_another_procedure : Fails Operand (program 4 (Jump 2) Discard Return)
jump_to_another_procedure r = let apart : suc zero ≡ zero = r.jumps 0 2 (Jump 2) refl refl in absurd (omega arith)

-- procedure 1 calls itself
call_of_itself : Fails Backward (calling 4 (Call 1) Return)
call_of_itself = (
  in_range 4 (Call 1) Return refl refl (omega arith) (omega arith),
  λ f. let one : 1 < 1 = f.calls 2 1 (in_callee 4 (Call 1) Return) refl in absurd (omega arith),
)

-- the stack has an entry at the return
entry_left : HasShapes (calling 4 PushTrue Return) → ⊥
entry_left (shape, fine) =
    let call = fine.each 0 (Call 1) (at_start 4 PushTrue Return) refl in
    let none : Some [] ≡ Some call.result = ap (after (Call 1)) (sym fine.start) ∙ call.finds in
    let two : shape 2 ≡ [] = call.passed_on 2 (inr refl) (omega arith) ∙ cc in
    let push = fine.each 2 PushTrue (in_callee 4 PushTrue Return) refl in
    let one : Some (Truth ∷ []) ≡ Some push.result = ap (after PushTrue) (sym two) ∙ push.finds in
    let three : shape 3 ≡ Truth ∷ [] = push.passed_on 3 (inl (refl, refl)) (omega arith) ∙ cc in
    let return = fine.each 3 Return (at_end 4 PushTrue Return refl) refl in
    let lacks : None ≡ Some return.result = ap (after Return) (sym three) ∙ return.finds in
    absurd cc

entry_at_the_return : Fails Stack (calling 4 PushTrue Return)
entry_at_the_return = (
  in_range 4 PushTrue Return refl refl tt (omega arith),
  forward 4 PushTrue Return refl refl (λ b e. absurd cc) (λ b e. absurd cc),
  entry_left,
)

-- the last place goes on past the end
no_return : Fails RunsOff (calling 4 Discard Keep)
no_return = (
  in_range 4 Discard Keep refl refl tt tt,
  forward 4 Discard Keep refl refl (λ b e. absurd cc) (λ b e. absurd cc),
  shaped 4 Keep refl,
  λ s. let four : 4 < 4 = (s.inside 3 4 (at_end 4 Discard Keep refl) (Keep, refl, inl (refl, refl))).0 in absurd (omega arith),
)
