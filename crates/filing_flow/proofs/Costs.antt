-- What places of code cost that goes forward: at most the steps of the code from there on.
use Rattle.std.proofs.Common.{◌≡◌, ℕ, zero, suc, ◌+◌, ◌<◌, ◌≤◌, List, [], ◌∷◌, length, Bool, true, false, cond, Option}
use Rattle.std.proofs.Common.{Some, None, refl, sym, ap, ◌∙◌, subst, arith}
use Rattle.std.specs.Prelude.{slice_get, nat_eq, max}
use Rattle.std.proofs.lemmas.Option.{slice_get_past}
use Rattle.filing_image.specs.declared.instruction.Operation.{Operation}
use Rattle.filing_image.specs.declared.instruction.Operation.TheVariants.{PushTrue, PushFalse, Not, Values, Join, Match, Pop, Exists, Size, Number}
use Rattle.filing_image.specs.declared.instruction.Operation.TheVariants.{Less, Jump, JumpIf, JumpUnless, Marked, Mark, File, Keep, Discard, Stop}
use Rattle.filing_image.specs.declared.instruction.Operation.TheVariants.{Fault, Call, Return}
use Rattle.filing_image.specs.Program.{Program}
use Rattle.filing_verify.specs.Flow.{first_place, target, goes_on, Follows}
use Rattle.filing_verify.specs.Well.{is_call, together, next_cost, target_cost, cost_by}
use Rattle.filing_verify.proofs.Spending.{same_cost}
use Rattle.sieve_meaning.specs.RunFaults.{number_of}
use Rattle.filing_flow.specs.Structure.{Action, Push, Negate, ValuesOf, JoinTwo, MatchKey, Drop, HasField, PushSize, PushNumber, IsLess, IsMarked}
use Rattle.filing_flow.specs.Structure.{SetMark, FileInto, SetKept, SetCancelled, End, Fail, CallTo, Flow, nothing, action, sequence, block, leave}
use Rattle.filing_flow.specs.Structure.{leave_if, size, Bounds, IsSoundAction, IsSound}
use Rattle.filing_flow.specs.Code.{places_in, IsWritten, Stands, end_at, jump_when}
use Rattle.filing_flow.specs.Types.{Shape, shape_at, HasType}
use Rattle.filing_flow.specs.Procedures.{action_steps, flow_steps, steps_by, AreTyped}
use Rattle.filing_flow.proofs.Rest.{RestOf, after_it, first_is, first_or_later, none_after}

-- COSTS OF ALL PLACES

module _ (p : Program) where
  cost_of : (ℕ → ℕ) → (place : ℕ) → Option Operation → ℕ
  cost_of cost q None = 0
  cost_of cost q (Some o) = cost_by p cost q o

  -- the costs over at most this number of places
  within : (places : ℕ) → ℕ → ℕ
  within zero q = 0
  within (suc n) q = cost_of (within n) q (slice_get p.code q)

  -- each place is followed by greater ones
  abbrev pub AllForward : Type 0
  AllForward = (q r : ℕ) (o : Operation) → slice_get p.code q ≡ Some o → Follows p o q r → q < r

  next_more : AllForward → (n q : ℕ) (x : Option Operation) → slice_get p.code q ≡ x
      → ((r : ℕ) → q < r → within n r ≡ within (suc n) r) → cost_of (within n) q x ≡ cost_of (within (suc n)) q x
  unfolding cost_of
  next_more forward n q None at same = refl
  next_more forward n q (Some o) at same = same_cost p o q (within n) (within (suc n)) (λ r f. same r (forward q r o at f))

  -- one place more is enough
  one_more : AllForward → (n q : ℕ) → length p.code ≤ n + q → within n q ≡ within (suc n) q
  unfolding within cost_of
  one_more forward zero q le = sym (ap (cost_of (within zero) q) (slice_get_past p.code q (omega arith)))
  one_more forward (suc n) q le = next_more forward n q (slice_get p.code q) refl (λ r less. one_more forward n r (omega arith))

  pub costs : ℕ → ℕ
  costs q = within (length p.code) q

  pub costs_are : AllForward → (q : ℕ) (o : Operation) → slice_get p.code q ≡ Some o → costs q ≡ cost_by p costs q o
  unfolding costs within cost_of
  costs_are forward q o at = one_more forward (length p.code) q (omega arith) ∙ ap (cost_of (within (length p.code)) q) at

-- STEPS

-- these are the costs of all places
abbrev pub AreExact : Program → (ℕ → ℕ) → Type 0
AreExact p cost = (q : ℕ) (o : Operation) → slice_get p.code q ≡ Some o → cost q ≡ cost_by p cost q o

module _ (p : Program) (cost : ℕ → ℕ) (exact : AreExact p cost) where
  module _ (bounds : Bounds) (calls : ℕ → ℕ) (of_calls : (b q : ℕ) → bounds.own < b → first_place p b ≡ Some q → cost q ≤ calls b) where
    next_small : (g : Bool) (pc t : ℕ) → cost (pc + 1) ≤ t → next_cost g pc cost ≤ t
    next_small true pc t le = le
    next_small false pc t le = omega arith

    -- an operation with no jump and no call
    plain_cost : (pc : ℕ) (o : Operation) (t : ℕ) → is_call o ≡ false → target p o ≡ None → slice_get p.code pc ≡ Some o
        → cost (pc + 1) ≤ t → cost pc ≤ 1 + 0 + t
    plain_cost pc o t no_call none at le =
        let n = next_small (goes_on o) pc t le in
        let e : cost pc ≡ 1 + together (is_call o) (next_cost (goes_on o) pc cost) (target_cost (target p o) cost) = exact pc o at in
        let f : 1 + together (is_call o) (next_cost (goes_on o) pc cost) (target_cost (target p o) cost)
        ≡ 1 + max (next_cost (goes_on o) pc cost) 0 = rw (no_call, none) refl in
        omega (arith, e, f, n)

    entered_cost : (b : ℕ) (x : Option ℕ) → first_place p b ≡ x → bounds.own < b → target_cost x cost ≤ calls b
    entered_cost b None e less = omega arith
    entered_cost b (Some q) e less = of_calls b q less e

    call_cost : (pc b t : ℕ) → bounds.own < b → slice_get p.code pc ≡ Some (Call b) → cost (pc + 1) ≤ t → cost pc ≤ 1 + calls b + t
    call_cost pc b t less at le =
        let n = entered_cost b (first_place p b) refl less in
        let e : cost pc ≡ 1 + (cost (pc + 1) + target_cost (first_place p b) cost) = exact pc (Call b) at in
        omega (arith, e, n, le)

    action_cost : (x : Action) (pc : ℕ) (o : Operation) (t : ℕ) → IsSoundAction bounds x → slice_get p.code pc ≡ Some o
        → IsWritten (places_in p.texts p.numbers) x o → cost (pc + 1) ≤ t → cost pc ≤ 1 + action_steps calls x + t
    action_cost (Push true) pc o t ok at w le = plain_cost pc PushTrue t refl refl (at ∙ ap Some w) le
    action_cost (Push false) pc o t ok at w le = plain_cost pc PushFalse t refl refl (at ∙ ap Some w) le
    action_cost Negate pc o t ok at w le = plain_cost pc Not t refl refl (at ∙ ap Some w) le
    action_cost (ValuesOf name) pc o t ok at (b, is, there) le = plain_cost pc (Values b) t refl refl (at ∙ ap Some is) le
    action_cost JoinTwo pc o t ok at w le = plain_cost pc Join t refl refl (at ∙ ap Some w) le
    action_cost (MatchKey a key) pc o t ok at (b, is, there) le = plain_cost pc (Match a b) t refl refl (at ∙ ap Some is) le
    action_cost Drop pc o t ok at w le = plain_cost pc Pop t refl refl (at ∙ ap Some w) le
    action_cost (HasField name) pc o t ok at (b, is, there) le = plain_cost pc (Exists b) t refl refl (at ∙ ap Some is) le
    action_cost PushSize pc o t ok at w le = plain_cost pc Size t refl refl (at ∙ ap Some w) le
    action_cost (PushNumber n) pc o t ok at (b, is, there) le = plain_cost pc (Number b) t refl refl (at ∙ ap Some is) le
    action_cost IsLess pc o t ok at w le = plain_cost pc Less t refl refl (at ∙ ap Some w) le
    action_cost (IsMarked b) pc o t ok at w le = plain_cost pc (Marked b) t refl refl (at ∙ ap Some w) le
    action_cost (SetMark b) pc o t ok at w le = plain_cost pc (Mark b) t refl refl (at ∙ ap Some w) le
    action_cost (FileInto a path) pc o t ok at (b, is, there) le = plain_cost pc (File a b) t refl refl (at ∙ ap Some is) le
    action_cost SetKept pc o t ok at w le = plain_cost pc Keep t refl refl (at ∙ ap Some w) le
    action_cost SetCancelled pc o t ok at w le = plain_cost pc Discard t refl refl (at ∙ ap Some w) le
    action_cost End pc o t ok at w le = plain_cost pc Stop t refl refl (at ∙ ap Some w) le
    action_cost (Fail fault) pc o t ok at w le = plain_cost pc (Fault (number_of fault)) t refl refl (at ∙ ap Some w) le
    action_cost (CallTo b) pc o t ok at w le = call_cost pc b t ok.0 (at ∙ ap Some w) le

    jump_cost : (pc b t : ℕ) → slice_get p.code pc ≡ Some (Jump b) → cost b ≤ t → cost pc ≤ 1 + t
    jump_cost pc b t at le = let e : cost pc ≡ 1 + max 0 (cost b) = exact pc (Jump b) at in omega (arith, e, le)

    jump_when_cost : (x : Bool) (pc b t : ℕ) → slice_get p.code pc ≡ Some (jump_when x b) → cost b ≤ t → cost (pc + 1) ≤ t → cost pc ≤ 1 + t
    jump_when_cost true pc b t at le next = let e : cost pc ≡ 1 + max (cost (pc + 1)) (cost b) = exact pc (JumpIf b) at in omega (arith, e, le, next)
    jump_when_cost false pc b t at le next = let e : cost pc ≡ 1 + max (cost (pc + 1)) (cost b) =
        exact pc (JumpUnless b) at in omega (arith, e, le, next)

    -- the ends of the blocks around cost no more
    abbrev EndsCost : (t : ℕ) → List ℕ → List Shape → Type 0
    EndsCost t ends es = (n : ℕ) (k : Shape) → shape_at es n ≡ Some k → cost (end_at ends n) ≤ t

    ends_block : (t b : ℕ) (ends : List ℕ) (k : Shape) (es : List Shape) → cost b ≤ t → EndsCost t ends es → EndsCost t (b ∷ ends) (k ∷ es)
    ends_block t b ends k es le h zero j e = le
    ends_block t b ends k es le h (suc n) j e = h n j e

    -- the steps of the code, and what its end costs
    flow_cost : (a : Flow) (ends : List ℕ) (es : List Shape) (i o : Shape) (pc t : ℕ) → HasType a es i o
        → IsSound bounds a → Stands (places_in p.texts p.numbers) p.code a ends pc → EndsCost t ends es
        → cost (pc + size a) ≤ t → cost pc ≤ flow_steps calls a + t
    flow_cost nothing ends es i o pc t d ok h around end = let e : pc + 0 ≡ pc = omega arith in let le : cost pc ≤ t =
        subst (λ (n : ℕ). cost n ≤ t) e end in omega (arith, le)
    flow_cost (action x) ends es i o pc t d ok (op, at, w) around end = action_cost x pc op t ok at w end
    flow_cost (sequence a b) ends es i o pc t d ok h around end =
        let e : pc + (size a + size b) ≡ pc + size a + size b = omega arith in
        let back = flow_cost b ends es d.0 o (pc + size a) t d.2 ok.1 h.1 around (subst (λ (n : ℕ). cost n ≤ t) e end) in
        let front = flow_cost a ends es i d.0 pc (flow_steps calls b + t) d.1 ok.0 h.0 (λ n k e. omega (arith, around n k e)) back in
        omega (arith, front)
    flow_cost (block a) ends es i o pc t d ok h around end =
        flow_cost a ((pc + size a) ∷ ends) (o ∷ es) i o pc t d ok h (ends_block t (pc + size a) ends o es end around)
        end
    flow_cost (leave n) ends es i o pc t d ok h around end = jump_cost pc (end_at ends n) t h (around n i d.1)
    flow_cost (leave_if x n) ends es i o pc t d ok h around end = jump_when_cost x pc (end_at ends n) t h (around n o d.2) end

  module _ (count : ℕ) where
    abbrev LaterCost : (from : ℕ) → List Flow → Type 0
    LaterCost from procedures = (b q : ℕ) → from ≤ b → first_place p b ≡ Some q → cost q ≤ steps_by from procedures b

    procedure_cost : (a : Flow) (later : List Flow) (from place : ℕ) → HasType (block a) [] [] []
        → RestOf p count from place (a ∷ later) → LaterCost (suc from) later
        → cost place ≤ flow_steps (steps_by (suc from) later) a + 1
    procedure_cost a later from place typed rest of_calls =
        let e : cost (place + size a) ≡ 1 + max 0 0 = exact (place + size a) Return rest.stand.1 in
        flow_cost (record { slots = p.slots; own = from; procedures = count }) (steps_by (suc from) later) of_calls
        (block a) [] [] [] [] place 1 typed rest.sound.0 rest.stand.0 (λ n k e. absurd (cc e)) (omega (arith, e))

    one_cost : (a : Flow) (later : List Flow) (from place : ℕ) → HasType (block a) [] [] []
        → RestOf p count from place (a ∷ later) → LaterCost (suc from) later → LaterCost from (a ∷ later)
    one_cost a later from place typed rest of_calls b q le first = go (nat_eq b from) refl
      where
        go : (t : Bool) → nat_eq b from ≡ t → cost q ≤ cond t (flow_steps (steps_by (suc from) later) a + 1) (steps_by (suc from) later b)
        go true e =
            let here = first_is p count from place a later rest in
            let same : place ≡ q = cc (here, first, (first_or_later p count from place a later rest b le).0 e) in
            subst (λ (n : ℕ). cost n ≤ flow_steps (steps_by (suc from) later) a + 1) same (procedure_cost a later from place typed rest of_calls)
        go false e = of_calls b q ((first_or_later p count from place a later rest b le).1 e) first

    -- a procedure costs no more than its steps
    pub procedures_cost : (procedures : List Flow) (from place : ℕ) → AreTyped procedures
        → RestOf p count from place procedures → LaterCost from procedures
    procedures_cost [] from place typed rest = λ b q le first. absurd (none_after p count from place b q rest le first)
    procedures_cost (a ∷ later) from place typed rest =
        one_cost a later from place typed.0 rest (procedures_cost later (suc from) (place + size a + 1) typed.1
        (after_it p count from place a later rest))
