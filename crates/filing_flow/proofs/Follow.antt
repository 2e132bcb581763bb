-- The machine does what structured code does.
use Rattle.std.proofs.Common.{◌≡◌, ℕ, zero, suc, ◌+◌, ◌<◌, ◌≤◌, List, [], ◌∷◌, ◌++◌, length, Bool, true, false, not}
use Rattle.std.proofs.Common.{cond, Option, Some, refl, sym, ap, ◌∙◌, subst, arith}
use Rattle.std.specs.Prelude.{slice_get, slice_index_or, nat_lt, nat_le, nat_eq, ◌||◌}
use Rattle.std.specs.List.{list_any}
use Rattle.filing_image.specs.declared.instruction.Operation.{Operation}
use Rattle.filing_image.specs.declared.instruction.Operation.TheVariants.{Jump, JumpIf, JumpUnless, Call}
use Rattle.filing_image.specs.Program.{Program}
use Rattle.class_paths.specs.Paths.{insert_path}
use Rattle.sieve_meaning.specs.declared.run_fault.RunFault.{RunFault}
use Rattle.sieve_meaning.specs.declared.run_fault.RunFault.TheVariants.{ClassNotOpen}
use Rattle.sieve_meaning.specs.RunFaults.{number_of}
use Rattle.sieve_meaning.proofs.RunFaultLemmas.{fault_of_number}
use Rattle.sieve_meaning.specs.Case.{Facts}
use Rattle.sieve_meaning.specs.Truth.{has_field}
use Rattle.filing_table.specs.Machine.{values_of, Entry, T, L, N, State, Run, At, Over, Trap, with_named, comparison_holds, on_stack, at_place, step}
use Rattle.filing_table.specs.Machine as table
use Rattle.filing_flow.specs.Structure.{Action, Push, Negate, ValuesOf, JoinTwo, MatchKey, Drop, HasField, PushSize, PushNumber, IsLess, IsMarked}
use Rattle.filing_flow.specs.Structure.{SetMark, FileInto, SetKept, SetCancelled, End, Fail, CallTo, Flow, nothing, action, sequence, block, leave}
use Rattle.filing_flow.specs.Structure.{leave_if, size, Bounds, IsSoundAction, IsSound}
use Rattle.filing_flow.specs.Code.{places_in, IsWritten, Stands, end_at, jump_when}
use Rattle.filing_flow.specs.Effect.{FlowState, Exit, FallsThrough, Leaves, EndsRun, Stuck, with_stack, file_exit}
use Rattle.filing_flow.specs.Effect.{CallEffects, call_exit, action_effect, and_then, caught, jump_exit, effect}

unfoldable pub steps : Program → Facts → ℕ → Run → Run
steps p c zero x = x
steps p c (suc n) x = steps p c n (step p c x)

-- at a place, with these places to return to
abbrev pub on : List ℕ → FlowState → ℕ → List Entry → State
on calls f pc es = record { place = pc; stack = es; filed = f.filed; kept = f.kept; cancelled = f.cancelled; marks = f.marks; calls = calls }

module _ (p : Program) (c : Facts) where
  pub record Comes (x y : Run) : Type 0 where
    pub count : ℕ
    pub leads : steps p c count x ≡ y

  steps_more : (n m : ℕ) (x : Run) → steps p c (n + m) x ≡ steps p c m (steps p c n x)
  unfolding steps
  steps_more zero m x = let e : 0 + m ≡ m = omega arith in rw e refl
  steps_more (suc n) m x = let e : suc n + m ≡ suc (n + m) = omega arith in rw e (steps_more n m (step p c x))

  pub stays : (x : Run) → Comes x x
  unfolding steps
  stays x = record { count = 0; leads = refl }

  pub then : {x y z : Run} → Comes x y → Comes y z → Comes x z
  then {x} a b = record { count = a.count + b.count; leads = steps_more a.count b.count x ∙ ap (steps p c b.count) a.leads ∙ b.leads }

  pub by_one : {x y : Run} → step p c x ≡ y → Comes x y
  unfolding steps
  by_one e = record { count = 1; leads = e }

  pub record OverAt (x : Run) (e : Option RunFault) (f : FlowState) : Type 0 where
    pub pc : ℕ
    pub stack : List Entry
    pub calls : List ℕ
    pub comes : Comes x (Over e (on calls f pc stack))

module _ (p : Program) (c : Facts) (calls : List ℕ) where
  -- from x the run comes to where the exit says
  abbrev pub Arrives : Exit → ℕ → List ℕ → Run → Type 0
  Arrives (FallsThrough f es) end ends x = Comes p c x (At (on calls f end es))
  Arrives (Leaves n f es) end ends x = Comes p c x (At (on calls f (end_at ends n) es))
  Arrives (EndsRun e f) end ends x = OverAt p c x e f
  Arrives Stuck end ends x = Unit {0}

  pub arrives_later : (o : Exit) (end : ℕ) (ends : List ℕ) (x y : Run) → Comes p c x y → Arrives o end ends y → Arrives o end ends x
  arrives_later (FallsThrough f es) end ends x y a b = then p c a b
  arrives_later (Leaves n f es) end ends x y a b = then p c a b
  arrives_later (EndsRun e f) end ends x y a b = record { pc = b.pc; stack = b.stack; calls = b.calls; comes = then p c a b.comes }
  arrives_later Stuck end ends x y a b = tt

  arrives_both : (o : Exit) (go : FlowState → List Entry → Exit) (mid end : ℕ) (ends : List ℕ) (x : Run)
      → Arrives o mid ends x → ((f : FlowState) (es : List Entry) → Arrives (go f es) end ends (At (on calls f mid es)))
      → Arrives (and_then o go) end ends x
  arrives_both (FallsThrough f es) go mid end ends x a b = arrives_later (go f es) end ends x (At (on calls f mid es)) a (b f es)
  arrives_both (Leaves n f es) go mid end ends x a b = a
  arrives_both (EndsRun e f) go mid end ends x a b = a
  arrives_both Stuck go mid end ends x a b = tt

  arrives_caught : (o : Exit) (end : ℕ) (ends : List ℕ) (x : Run) → Arrives o end (end ∷ ends) x → Arrives (caught o) end ends x
  arrives_caught (FallsThrough f es) end ends x a = a
  arrives_caught (Leaves zero f es) end ends x a = a
  arrives_caught (Leaves (suc n) f es) end ends x a = a
  arrives_caught (EndsRun e f) end ends x a = a
  arrives_caught Stuck end ends x a = tt

  pub stepped : (f : FlowState) (pc : ℕ) (es : List Entry) (o : Operation) → slice_get p.code pc ≡ Some o
      → step p c (At (on calls f pc es)) ≡ on_stack p c o (on calls f pc es) es
  stepped f pc es o h = ap (λ (x : Option Operation). at_place p c x (on calls f pc es)) h

  -- what the machine does is what the operation does
  abbrev Gives : Exit → ℕ → Run → Type 0
  Gives (FallsThrough f es) next x = x ≡ At (on calls f next es)
  Gives (Leaves n f es) next x = ⊥
  Gives (EndsRun e f) next x = (pc : ℕ) × (es : List Entry) × (x ≡ Over e (on calls f pc es))
  Gives Stuck next x = Unit {0}

  arrives_one : (o : Exit) (next : ℕ) (ends : List ℕ) (x y : Run) → step p c x ≡ y → Gives o next y → Arrives o next ends x
  arrives_one (FallsThrough f es) next ends x y e g = by_one p c (e ∙ g)
  arrives_one (Leaves n f es) next ends x y e g = absurd g
  arrives_one (EndsRun k f) next ends x y e g = record { pc = g.0; stack = g.1; calls = calls; comes = by_one p c (e ∙ g.2) }
  arrives_one Stuck next ends x y e g = tt

  stacked : (f : FlowState) (pc : ℕ) (es fs : List Entry) → Gives (with_stack f fs) (pc + 1) (table.with_stack (on calls f pc es) fs)
  stacked f pc es fs =
      elim (nat_lt 32 (length fs)) as (λ t.
      Gives (cond t Stuck (FallsThrough f fs)) (pc + 1) (cond t Trap (At (on calls f (pc + 1) fs)))) [
        | true ↦ tt
        | false ↦ refl
      ]

  le_is : (a b : ℕ) → a ≤ b → nat_le a b ≡ true
  le_is a b l = grind (arith)

  lt_is : (a b : ℕ) → a < b → nat_lt a b ≡ true
  lt_is a b l = grind (arith)

  filed : (f : FlowState) (pc : ℕ) (es : List Entry) (a : ℕ) (path : List ℕ)
      → Gives (file_exit c f es a path) (pc + 1) (table.file c (on calls f pc es) a path)
  filed f pc es a path =
      elim (c.is_open path) as (λ t.
      Gives (cond t (FallsThrough (record f { filed = insert_path path f.filed; cancelled = f.cancelled || nat_eq a 0 })
      es) (EndsRun (Some ClassNotOpen) f)) (pc + 1)
      (cond t (At (record (on calls f pc es) {
        place = pc + 1;
        filed = insert_path path f.filed;
        cancelled =
            f.cancelled || nat_eq a 0;
      })) (Over (Some ClassNotOpen) (on calls f pc es)))) [
        | true ↦ refl
        | false ↦ (pc, es, refl)
      ]

  stuck : (f : FlowState) (pc : ℕ) (x : Run) → Gives Stuck pc x
  stuck f pc x = tt

  named : {A : Type 0} (o : Exit) (next : ℕ) (x : Option A) (y : A) (go : A → Run) → x ≡ Some y → Gives o next (go y) → Gives o next (with_named x go)
  named {A} o next x y go e g = subst (λ (z : Option A). Gives o next (with_named z go)) (sym e) g

  -- an action that is one step
  abbrev IsStep : Action → Type 0
  IsStep (CallTo b) = ⊥
  IsStep x = Unit {0}

  action_gives : (called : CallEffects) (bounds : Bounds) → bounds.slots ≡ p.slots
      → (x : Action) (f : FlowState) (pc : ℕ) (es : List Entry) (o : Operation) → IsStep x → IsSoundAction bounds x
      → IsWritten (places_in p.texts p.numbers) x o
      → Gives (action_effect called c x f es) (pc + 1) (on_stack p c o (on calls f pc es) es)
  action_gives called bounds slots (Push true) f pc es o is_step ok w = rw w (stacked f pc es (T true ∷ es))
  action_gives called bounds slots (Push false) f pc es o is_step ok w = rw w (stacked f pc es (T false ∷ es))
  action_gives called bounds slots Negate f pc (T b ∷ es) o is_step ok w = rw w (stacked f pc (T b ∷ es) (T (not b) ∷ es))
  action_gives called bounds slots (ValuesOf name) f pc es o is_step ok (b, is, t) =
      rw is (named (with_stack f (L (values_of c name) ∷ es)) (pc + 1) _ name _ t (stacked f pc es (L (values_of c name)
      ∷ es)))
  action_gives called bounds slots JoinTwo f pc (L ys ∷ L xs ∷ es) o is_step ok w = rw w (stacked f pc (L ys ∷ L xs ∷ es) (L (xs ++ ys) ∷ es))
  action_gives called bounds slots (MatchKey a key) f pc (L xs ∷ es) o is_step ok (b, is, t) =
      rw is (rw (le_is a 5 ok) (named (with_stack f (T (list_any (comparison_holds a key) xs) ∷ L xs ∷ es)) (pc + 1) _
      key _ t (stacked f pc (L xs ∷ es) (T (list_any (comparison_holds a key) xs) ∷ L xs ∷ es))))
  action_gives called bounds slots Drop f pc (e ∷ es) o is_step ok w = rw w (stacked f pc (e ∷ es) es)
  action_gives called bounds slots (HasField name) f pc es o is_step ok (b, is, t) =
      rw is (named (with_stack f (T (has_field c name) ∷ es)) (pc + 1) _ name _ t (stacked f pc es (T (has_field c name)
      ∷ es)))
  action_gives called bounds slots PushSize f pc es o is_step ok w = rw w (stacked f pc es (N c.size ∷ es))
  action_gives called bounds slots (PushNumber n) f pc es o is_step ok (b, is, t) =
      rw is (named (with_stack f (N n ∷ es)) (pc + 1) _ n _ t (stacked f pc es (N n ∷ es)))
  action_gives called bounds slots IsLess f pc (N y ∷ N x ∷ es) o is_step ok w = rw w (stacked f pc (N y ∷ N x ∷ es) (T (nat_lt x y) ∷ es))
  action_gives called bounds slots (IsMarked b) f pc es o is_step ok w =
      rw w (rw (lt_is b p.slots (omega (arith, ok, slots))) (stacked f pc es (T (slice_index_or f.marks b false) ∷ es)))
  action_gives called bounds slots (SetMark b) f pc es o is_step ok w = rw w (rw (lt_is b p.slots (omega (arith, ok, slots))) refl)
  action_gives called bounds slots (FileInto a path) f pc es o is_step ok (b, is, t) =
      rw is (rw (le_is a 1 ok) (named (file_exit c f es a path) (pc + 1) _ path _ t (filed f pc es a path)))
  action_gives called bounds slots SetKept f pc es o is_step ok w = rw w refl
  action_gives called bounds slots SetCancelled f pc es o is_step ok w = rw w refl
  action_gives called bounds slots End f pc es o is_step ok w = (pc, es, rw w refl)
  action_gives called bounds slots (Fail fault) f pc es o is_step ok w =
      (pc, es, rw w (rw (le_is 2 (number_of fault) ok, fault_of_number fault) refl))
  action_gives called bounds slots (CallTo b) f pc es o is_step ok w = absurd is_step
  action_gives called bounds slots x f pc es o is_step ok w = tt

  leaves_if : (t : Bool) (n : ℕ) (ends : List ℕ) (pc : ℕ) (f : FlowState) (es : List Entry)
      → slice_get p.code pc ≡ Some (jump_when t (end_at ends n))
      → Arrives (jump_exit t n f es) (pc + 1) ends (At (on calls f pc es))
  leaves_if true n ends pc f (T true ∷ es) h = by_one p c (stepped f pc (T true ∷ es) (JumpIf (end_at ends n)) h)
  leaves_if true n ends pc f (T false ∷ es) h = by_one p c (stepped f pc (T false ∷ es) (JumpIf (end_at ends n)) h)
  leaves_if true n ends pc f _ h = tt
  leaves_if false n ends pc f (T true ∷ es) h = by_one p c (stepped f pc (T true ∷ es) (JumpUnless (end_at ends n)) h)
  leaves_if false n ends pc f (T false ∷ es) h = by_one p c (stepped f pc (T false ∷ es) (JumpUnless (end_at ends n)) h)
  leaves_if false n ends pc f _ h = tt

  -- From a call the run comes to where the call's effect says.
  abbrev pub CallsRun : CallEffects → Type 0
  CallsRun called = (b : ℕ) (f : FlowState) (pc : ℕ) (ends : List ℕ) → slice_get p.code pc ≡ Some (Call b)
      → Arrives (call_exit (called b f)) (pc + 1) ends (At (on calls f pc []))

  module _ (called : CallEffects) (calls_run : CallsRun called) (bounds : Bounds) (slots : bounds.slots ≡ p.slots) where
    action_runs : (x : Action) (ends : List ℕ) (pc : ℕ) (f : FlowState) (es : List Entry) (o : Operation)
        → IsSoundAction bounds x → slice_get p.code pc ≡ Some o → IsWritten (places_in p.texts p.numbers) x o
        → Arrives (action_effect called c x f es) (pc + 1) ends (At (on calls f pc es))
    action_runs (CallTo b) ends pc f [] o ok at w = calls_run b f pc ends (at ∙ ap Some w)
    action_runs (CallTo b) ends pc f (e ∷ es) o ok at w = tt
    action_runs x ends pc f es o ok at w =
        arrives_one (action_effect called c x f es) (pc + 1) ends (At (on calls f pc es)) _ (stepped f pc es o at)
        (action_gives called bounds slots x f pc es o tt ok w)

    -- From its first place the run comes to where the code's effect says.
    pub flow_runs : (a : Flow) (ends : List ℕ) (pc : ℕ) (f : FlowState) (es : List Entry) → IsSound bounds a
        → Stands (places_in p.texts p.numbers) p.code a ends pc
        → Arrives (effect called c a f es) (pc + size a) ends (At (on calls f pc es))
    flow_runs nothing ends pc f es ok h = let e : pc ≡ pc + 0 = omega arith in
        subst (λ (n : ℕ). Comes p c (At (on calls f pc es)) (At (on calls f n es))) e
        (stays p c (At (on calls f pc es)))
    flow_runs (action x) ends pc f es ok (o, at, w) = action_runs x ends pc f es o ok at w
    flow_runs (sequence a b) ends pc f es ok h =
        let end : pc + size a + size b ≡ pc + (size a + size b) = omega arith in
        arrives_both (effect called c a f es) (effect called c b) (pc + size a) (pc + (size a + size b)) ends
        (At (on calls f pc es)) (flow_runs a ends pc f es ok.0 h.0)
        (λ g fs. subst (λ (n : ℕ). Arrives (effect called c b g fs) n ends (At (on calls g (pc + size a) fs))) end
        (flow_runs b ends (pc + size a) g fs ok.1 h.1))
    flow_runs (block a) ends pc f es ok h =
        arrives_caught (effect called c a f es) (pc + size a) ends (At (on calls f pc es))
        (flow_runs a ((pc + size a) ∷ ends) pc f es ok h)
    flow_runs (leave n) ends pc f es ok h = by_one p c (stepped f pc es (Jump (end_at ends n)) h)
    flow_runs (leave_if t n) ends pc f es ok h = leaves_if t n ends pc f es h
