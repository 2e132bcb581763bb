-- The run of a verified program never traps, and ends within its budget.
use Rattle.std.proofs.Common.{◌≡◌, ◌≢◌, ℕ, zero, suc, ◌+◌, ◌<◌, ◌≤◌, List, [], ◌∷◌, ◌++◌, length, Bool, true, false, not, ◌||◌, cond, max, Option}
use Rattle.std.proofs.Common.{Some, None, refl, sym, ap, ◌∙◌, subst, arith, inl, inr, ◌⊎◌, get_or}
use Rattle.std.specs.Prelude.{slice_get, nat_lt, nat_eq}
use Rattle.std.proofs.lemmas.Bool.{le-ltb, lt-ltb, le-leb}
use Rattle.std.proofs.lemmas.Option.{slice_get-get_or, same_Some}
use Rattle.std.proofs.lemmas.List.Elements.{All-get_or}
use Rattle.filing_image.specs.declared.instruction.Operation.{Operation}
use Rattle.filing_image.specs.declared.instruction.Operation.TheVariants.{PushTrue, PushFalse, Not, Values, Join, Match, Pop, Exists, Size, Number}
use Rattle.filing_image.specs.declared.instruction.Operation.TheVariants.{Less, Jump, JumpIf, JumpUnless, Marked, Mark, File, Keep, Discard, Stop}
use Rattle.filing_image.specs.declared.instruction.Operation.TheVariants.{Fault, Call, Return}
use Rattle.filing_image.specs.Program.{Program, first_places, firsts_of}
use Rattle.filing_verify.specs.declared.kind.Kind.{Kind}
use Rattle.filing_verify.specs.declared.kind.Kind.TheVariants.{Truth, Texts, Count}
use Rattle.filing_verify.specs.Flow.{first_place, target, goes_on, Follows, Continues, Path, IsReached, procedure_of}
use Rattle.filing_verify.specs.Shapes.{after, IsFine, IsAssignment}
use Rattle.filing_verify.specs.Well.{InRange, is_call, together, next_cost, target_cost, cost_by, Suffices, IsWell}
use Rattle.filing_verify.proofs.Procedures.{by_kind, enters, leads_inside, number_small}
use Rattle.class_paths.specs.Paths.{insert_path}
use Rattle.sieve_meaning.specs.declared.run_fault.RunFault.{RunFault}
use Rattle.sieve_meaning.specs.declared.run_fault.RunFault.TheVariants.{ClassNotOpen}
use Rattle.sieve_meaning.specs.RunFaults.{fault_of}
use Rattle.sieve_meaning.proofs.RunFaultLemmas.{fault_between}
use Rattle.sieve_meaning.specs.Case.{Facts}
use Rattle.sieve_meaning.specs.Truth.{has_field}
use Rattle.filing_table.specs.Machine.{Entry, T, L, N, State, values_of, Run, At, Over, Trap, with_stack, with_named, only_if, jump, file, enter}
use Rattle.filing_table.specs.Machine.{go_back, on_stack, act, at_place, start, step, after_steps}

pub kind : Entry → Kind
kind (T b) = Truth
kind (L vs) = Texts
kind (N n) = Count

pub kinds : List Entry → List Kind
kinds [] = []
kinds (e ∷ es) = kind e ∷ kinds es

pub length-kinds : (es : List Entry) → length (kinds es) ≡ length es
unfolding kinds
length-kinds [] = refl
length-kinds (e ∷ es) = ap suc (length-kinds es)

-- on to a successor, with no call
record Moves (p : Program) (o : Operation) (s : State) (r : List Kind) (s' : State) : Type 0 where
  pub follows : Follows p o s.place s'.place
  pub kinds : kinds s'.stack ≡ r
  pub calls : s'.calls ≡ s.calls
  pub plain : is_call o ≡ false

-- into a procedure
record Enters (p : Program) (o : Operation) (s s' : State) : Type 0 where
  pub number : ℕ
  pub is : o ≡ Call number
  pub first : first_place p number ≡ Some s'.place
  pub kinds : kinds s'.stack ≡ []
  pub calls : s'.calls ≡ (s.place + 1) ∷ s.calls

-- on after the last call
record GoesBack (o : Operation) (s s' : State) : Type 0 where
  pub is : o ≡ Return
  pub kinds : kinds s'.stack ≡ []
  pub calls : s.calls ≡ s'.place ∷ s'.calls

-- what an operation does where its operands are there
Does : Program → Operation → State → List Kind → Run → Type 0
Does p o s r (At s') = Moves p o s r s' ⊎ (Enters p o s s' ⊎ GoesBack o s s')
Does p o s r (Over f s') = Unit {0}
Does p o s r Trap = ⊥

stacked : (p : Program) (o : Operation) (s : State) (es : List Entry) (r : List Kind) → goes_on o ≡ true
    → is_call o ≡ false → Some (kinds es) ≡ Some r → length r ≤ 32 → Does p o s r (with_stack s es)
unfolding Does
stacked p o s es r g plain e fits =
    let same : kinds es ≡ r = cc in
    let small : nat_lt 32 (length es) ≡ false = le-ltb _ _ (omega (arith, length-kinds es, ap length same)) in
    rw small (inl (record { follows = inl (g, refl); kinds = same; calls = refl; plain = plain }))

named : {A : Type 0} (p : Program) (o : Operation) (s : State) (r : List Kind) (xs : List A) (b : ℕ) (go : A → Run)
    → b < length xs → ((x : A) → Does p o s r (go x)) → Does p o s r (with_named (slice_get xs b) go)
named p o s r [] b go lt h = absurd (omega arith)
named p o s r (x ∷ xs) zero go lt h = h x
named p o s r (x ∷ xs) (suc b) go lt h = named p o s r xs b go (omega arith) h

only : (p : Program) (o : Operation) (s : State) (r : List Kind) (b : Bool) (x : Run) → b ≡ true → Does p o s r x → Does p o s r (only_if b x)
only p o s r true x e h = h
only p o s r false x e h = absurd cc

jumped : (p : Program) (o : Operation) (s : State) (es : List Entry) (r : List Kind) (b : ℕ) (t : Bool)
    → goes_on o ≡ true → is_call o ≡ false → target p o ≡ Some b → Some (kinds es) ≡ Some r
    → Does p o s r (jump s es t b)
unfolding Does
jumped p o s es r b true g plain to e = inl (record { follows = inr to; kinds = cc; calls = refl; plain = plain })
jumped p o s es r b false g plain to e = inl (record { follows = inl (g, refl); kinds = cc; calls = refl; plain = plain })

filed : (p : Program) (o : Operation) (s : State) (r : List Kind) (c : Facts) (a : ℕ) (path : List ℕ) → goes_on o ≡ true
    → is_call o ≡ false → Some (kinds s.stack) ≡ Some r → Does p o s r (file c s a path)
unfolding Does
filed p o s r c a path g plain e =
    elim (c.is_open path) as (λ b.
    Does p o s r (cond b (At (record s {
      place = s.place + 1;
      filed = insert_path path s.filed;
      cancelled =
          s.cancelled || nat_eq a 0;
    })) (Over (Some ClassNotOpen) s))) [
      | true ↦ inl (record { follows = inl (g, refl); kinds = cc; calls = refl; plain = plain })
      | false ↦ tt
    ]

failed : (p : Program) (o : Operation) (s : State) (r : List Kind) (x : Option RunFault) (fault : RunFault)
    → x ≡ Some fault → Does p o s r (with_named x (λ f. Over (Some f) s))
unfolding Does
failed p o s r None fault e = absurd cc
failed p o s r (Some f) fault e = tt

entered : (p : Program) (b : ℕ) (s : State) (r : List Kind) (x : Option ℕ) → first_place p b ≡ x
    → b < length (first_places p) → s.stack ≡ [] → Does p (Call b) s r (with_named x (enter s))
unfolding Does kinds
entered p b s r None e lt bare = let there = slice_get-get_or (first_places p) b 0 lt in absurd (cc (there, e))
entered p b s r (Some f) e lt bare = inr (inl (record { number = b; is = refl; first = e; kinds = ap kinds bare; calls = refl }))

came_back : (p : Program) (s : State) (r : List Kind) (calls : List ℕ) → s.calls ≡ calls → s.stack ≡ [] → Does p Return s r (go_back s calls)
unfolding Does kinds
came_back p s r [] e bare = tt
came_back p s r (place ∷ others) e bare = inr (inr (record { is = refl; kinds = ap kinds bare; calls = e }))

acts : (p : Program) (c : Facts) (o : Operation) (s : State) (es : List Entry) (r : List Kind) → s.stack ≡ es
    → after o (kinds es) ≡ Some r → length r ≤ 32 → InRange p o → Does p o s r (on_stack p c o s es)
unfolding Does kinds kind
acts p c PushTrue s es r same e fits range = stacked p PushTrue s (T true ∷ es) r refl refl e fits
acts p c PushFalse s es r same e fits range = stacked p PushFalse s (T false ∷ es) r refl refl e fits
acts p c Not s (T b ∷ es) r same e fits range = stacked p Not s (T (not b) ∷ es) r refl refl e fits
acts p c (Values b) s es r same e fits range =
    named p (Values b) s r p.texts b _ range (λ name.
    stacked p (Values b) s (L (values_of c name) ∷ es) r refl refl e fits)
acts p c Join s (L ys ∷ L xs ∷ es) r same e fits range = stacked p Join s (L (xs ++ ys) ∷ es) r refl refl e fits
acts p c (Match a b) s (L xs ∷ es) r same e fits range =
    only p (Match a b) s r _ _ (le-leb _ _ range.0) (named p (Match a b) s r p.texts b _ range.1 (λ key.
    stacked p (Match a b) s (T _ ∷ L xs ∷ es) r refl refl e fits))
acts p c Pop s (d ∷ es) r same e fits range = stacked p Pop s es r refl refl e fits
acts p c (Exists b) s es r same e fits range =
    named p (Exists b) s r p.texts b _ range (λ name.
    stacked p (Exists b) s (T (has_field c name) ∷ es) r refl refl e fits)
acts p c Size s es r same e fits range = stacked p Size s (N c.size ∷ es) r refl refl e fits
acts p c (Number b) s es r same e fits range = named p (Number b) s r p.numbers b _ range (λ n. stacked p (Number b) s (N n ∷ es) r refl refl e fits)
acts p c Less s (N y ∷ N x ∷ es) r same e fits range = stacked p Less s (T (nat_lt x y) ∷ es) r refl refl e fits
acts p c (Jump b) s es r same e fits range = inl (record { follows = inr refl; kinds = same_Some _ _ e; calls = refl; plain = refl })
acts p c (JumpIf b) s (T t ∷ es) r same e fits range = jumped p (JumpIf b) s es r b t refl refl refl e
acts p c (JumpUnless b) s (T t ∷ es) r same e fits range = jumped p (JumpUnless b) s es r b (not t) refl refl refl e
acts p c (Marked b) s es r same e fits range = only p (Marked b) s r _ _ (lt-ltb _ _ range) (stacked p (Marked b) s (T _ ∷ es) r refl refl e fits)
acts p c (Mark b) s es r same e fits range =
    only p (Mark b) s r _ _ (lt-ltb _ _ range) (inl (record {
      follows = inl (refl, refl);
      kinds = ap kinds same
          ∙ same_Some _ _ e;
      calls = refl;
      plain = refl;
    }))
acts p c (File a b) s es r same e fits range =
    only p (File a b) s r _ _ (le-leb _ _ range.0) (named p (File a b) s r p.texts b _ range.1 (λ path.
    filed p (File a b) s r c a path refl refl (ap Some (ap kinds same) ∙ e)))
acts p c Keep s es r same e fits range =
    (inl (record { follows = inl (refl, refl); kinds = ap kinds same ∙ same_Some _ _ e; calls = refl; plain = refl }))
acts p c Discard s es r same e fits range =
    (inl (record { follows = inl (refl, refl); kinds = ap kinds same ∙ same_Some _ _ e; calls = refl; plain = refl }))
acts p c Stop s es r same e fits range = tt
acts p c (Fault a) s es r same e fits range = let (fault, is) = fault_between a range.0 range.1 in
    only p (Fault a) s r _ _ (le-leb _ _ range.0) (failed p (Fault a) s r (fault_of a) fault is)
acts p c (Call b) s [] r same e fits range = entered p b s r (first_place p b) refl range same
acts p c Return s [] r same e fits range = came_back p s r s.calls refl same
acts p c o s es r same e fits range = absurd cc

-- ---- what a place costs

-- a step and a successor
step_cost : (p : Program) (cost : ℕ → ℕ) (o : Operation) (i q : ℕ) → is_call o ≡ false → Follows p o i q → 1 + cost q ≤ cost_by p cost i o
step_cost p cost o i q plain (inl (g, e)) =
    let n : next_cost (goes_on o) i cost ≡ cost q = rw (g, e) refl in
    let t : together (is_call o) (next_cost (goes_on o) i cost) (target_cost (target p o) cost)
    ≡ max (next_cost (goes_on o) i cost) (target_cost (target p o) cost) = rw plain refl in
    omega arith
step_cost p cost o i q plain (inr to) =
    let n : target_cost (target p o) cost ≡ cost q = rw to refl in
    let t : together (is_call o) (next_cost (goes_on o) i cost) (target_cost (target p o) cost)
    ≡ max (next_cost (goes_on o) i cost) (target_cost (target p o) cost) = rw plain refl in
    omega arith

call_cost : (p : Program) (cost : ℕ → ℕ) (b i f : ℕ) → first_place p b ≡ Some f → cost_by p cost i (Call b) ≡ 1 + (cost (i + 1) + cost f)
call_cost p cost b i f first = rw first refl

-- of places to return to, together
total : (ℕ → ℕ) → List ℕ → ℕ
total cost [] = 0
total cost (q ∷ qs) = cost q + total cost qs

after_call : (b : ℕ) (ks r : List Kind) → after (Call b) ks ≡ Some r → r ≡ []
after_call b [] r e = cc
after_call b (k ∷ ks) r e = absurd cc

module _ (p : Program) (c : Facts) (well : IsWell p) where
  pub shape : ℕ → List Kind
  shape = well.shaped.0

  good : IsAssignment p shape
  unfolding shape
  good = well.shaped.1

  -- each place to return to is reached, with the empty shape, and was put there by a procedure whose number is not below
  -- the number of the calls before it
  pub Waits : List ℕ → Type 0
  Waits [] = Unit {0}
  Waits (q ∷ qs) = IsReached p q × (q < length p.code) × (shape q ≡ []) × (length qs ≤ procedure_of p q) × Waits qs

  -- in version 1 the run is a path; in version 2 the budget covers the steps so far and the costs of what is left
  pub Spent : (x : Option (List ℕ)) → Suffices p x → ℕ → State → Type 0
  Spent None paths n s = Path p n s.place
  Spent (Some firsts) (cost, are, enough) n s = n + cost s.place + total cost s.calls ≤ p.budget

  -- a run that has not ended is at a reached place, and its stack has the shape of that place
  pub record Keeps (n : ℕ) (s : State) : Type 0 where
    pub reached : IsReached p s.place
    pub within : s.place < length p.code
    pub kinds : kinds s.stack ≡ shape s.place
    pub waits : Waits s.calls
    pub nested : length s.calls ≤ procedure_of p s.place
    pub spent : Spent p.procedures well.within.enough n s

  Ok : ℕ → Run → Type 0
  Ok n (At s) = Keeps n s
  Ok n (Over f s) = Unit {0}
  Ok n Trap = ⊥

  module _ (n : ℕ) (s : State) (k : Keeps n s) where
    pub operation : Operation
    operation = get_or p.code s.place PushTrue

    here : slice_get p.code s.place ≡ Some operation
    unfolding operation
    here = slice_get-get_or p.code s.place PushTrue k.within

    in_range : InRange p operation
    unfolding operation
    in_range = All-get_or (InRange p) p.code s.place PushTrue k.within well.in_range.each

    fine : IsFine p shape s.place operation
    fine = good.each s.place operation k.reached here

    does : Does p operation s fine.result (act p c operation s)
    does = acts p c operation s s.stack fine.result refl (ap (after operation) k.kinds ∙ fine.finds) fine.shallow_after in_range

    reaches : (q : ℕ) → Follows p operation s.place q → IsReached p q
    reaches q f = (suc k.reached.0, (s.place, k.reached.1, (operation, here, f)))

    inside : (q : ℕ) → Follows p operation s.place q → q < length p.code
    inside q f = leads_inside p well.in_range well.inside s.place q k.reached (operation, here, f)

    -- without a call the run stays in its procedure
    continues : (q : ℕ) → is_call operation ≡ false → Follows p operation s.place q → Continues p s.place q
    continues q plain (inl next) = (operation, here, inl next)
    continues q plain (inr to) = elim (by_kind p well.in_range operation q to) [
      | inl jumps ↦ (operation, here, inr jumps)
      | inr (b, is, first) ↦ absurd (cc (ap is_call is, plain))
    ]

    same_procedure : (q : ℕ) → Continues p s.place q → procedure_of p q ≡ procedure_of p s.place
    same_procedure q f = (well.inside.inside s.place q k.reached f).1

    spent_moves : (s' : State) → Moves p operation s fine.result s' → (x : Option (List ℕ)) (e : Suffices p x) → Spent x e n s → Spent x e (suc n) s'
    unfolding Spent
    spent_moves s' d None paths path = (s.place, path, (operation, here, d.follows))
    spent_moves s' d (Some firsts) (cost, are, enough) spent =
        let paid : cost s.place ≡ cost_by p cost s.place operation = are s.place operation k.reached here in
        let step = step_cost p cost operation s.place s'.place d.plain d.follows in
        let same : total cost s'.calls ≡ total cost s.calls = ap (total cost) d.calls in
        omega arith

    moves : (s' : State) → Moves p operation s fine.result s' → Keeps (suc n) s'
    moves s' d =
        let lt = inside s'.place d.follows in
        let same = same_procedure s'.place (continues s'.place d.plain d.follows) in
        record {
          reached = reaches s'.place d.follows;
          within = lt;
          kinds = d.kinds ∙ sym (fine.passed_on s'.place d.follows lt);
          waits = subst Waits (sym d.calls) k.waits;
          nested = omega (arith, k.nested, ap length d.calls, same);
          spent = spent_moves s' d p.procedures well.within.enough k.spent;
        }

    module _ (s' : State) (d : Enters p operation s s') where
      to_first : Follows p operation s.place s'.place
      to_first = inr (ap (target p) d.is ∙ d.first)

      to_next : Follows p operation s.place (s.place + 1)
      to_next = inl (ap goes_on d.is, refl)

      on_next : Continues p s.place (s.place + 1)
      on_next = (operation, here, inl (ap goes_on d.is, refl))

      bare : fine.result ≡ []
      bare = after_call d.number (shape s.place) fine.result (ap (λ (o : Operation). after o (shape s.place)) (sym d.is) ∙ fine.finds)

      later : procedure_of p s.place < d.number
      later = well.forward.calls s.place d.number k.reached (here ∙ ap Some d.is)

      spent_enters : (x : Option (List ℕ)) (e : Suffices p x) → Spent x e n s → Spent x e (suc n) s'
      unfolding Spent total
      spent_enters None paths path = (s.place, path, (operation, here, to_first))
      spent_enters (Some firsts) (cost, are, enough) spent =
          let paid : cost s.place ≡ cost_by p cost s.place operation = are s.place operation k.reached here in
          let call : cost_by p cost s.place operation ≡ 1 + (cost (s.place + 1) + cost s'.place) =
          ap (λ (o : Operation). cost_by p cost s.place o) d.is
          ∙ call_cost p cost d.number s.place s'.place d.first in
          let more : total cost s'.calls ≡ cost (s.place + 1) + total cost s.calls = ap (total cost) d.calls in
          omega arith

      waits_more : Waits ((s.place + 1) ∷ s.calls)
      unfolding Waits
      waits_more =
          let lt = inside (s.place + 1) to_next in
          let same = same_procedure (s.place + 1) on_next in
          (reaches (s.place + 1) to_next, lt, fine.passed_on (s.place + 1) to_next lt ∙ bare, omega (arith, k.nested, same), k.waits)

      goes_in : Keeps (suc n) s'
      goes_in =
          let lt = inside s'.place to_first in
          record {
            reached = reaches s'.place to_first;
            within = lt;
            kinds = d.kinds ∙ sym bare ∙ sym (fine.passed_on s'.place to_first lt);
            waits = subst Waits (sym d.calls) waits_more;
            nested = omega (arith, k.nested, later, ap length d.calls, enters p well.in_range d.number s'.place d.first);
            spent = spent_enters p.procedures well.within.enough k.spent;
          }

    module _ (s' : State) (d : GoesBack operation s s') where
      waited : Waits (s'.place ∷ s'.calls)
      waited = subst Waits d.calls k.waits

      some_calls : 0 < length (first_places p)
      some_calls = subst (InRange p) d.is in_range

      spent_back : (x : Option (List ℕ)) (e : Suffices p x) → p.procedures ≡ x → Spent x e n s → Spent x e (suc n) s'
      unfolding Spent total
      spent_back None paths none path = let no : length (first_places p) ≡ 0 =
          ap (λ (y : Option (List ℕ)). length (firsts_of y)) none in absurd (omega (arith, some_calls, no))
      spent_back (Some firsts) (cost, are, enough) some spent =
          let paid : cost s.place ≡ cost_by p cost s.place operation = are s.place operation k.reached here in
          let one : cost_by p cost s.place operation ≡ 1 = ap (λ (o : Operation). cost_by p cost s.place o) d.is in
          let less : total cost s.calls ≡ cost s'.place + total cost s'.calls = ap (total cost) d.calls in
          omega arith

      goes_out : Keeps (suc n) s'
      unfolding Waits
      goes_out = record {
        reached = waited.0;
        within = waited.1;
        kinds = d.kinds ∙ sym waited.2;
        waits = waited.4;
        nested = waited.3;
        spent = spent_back p.procedures well.within.enough refl k.spent;
      }

    keeps_on : (x : Run) → Does p operation s fine.result x → Ok (suc n) x
    unfolding Does Ok
    keeps_on (At s') (inl d) = moves s' d
    keeps_on (At s') (inr (inl d)) = goes_in s' d
    keeps_on (At s') (inr (inr d)) = goes_out s' d
    keeps_on (Over f s') d = tt
    keeps_on Trap d = d

    next_ok : Ok (suc n) (step p c (At s))
    next_ok = rw here (keeps_on (act p c operation s) does)

    not_trap : (x : Run) → Does p operation s fine.result x → x ≢ Trap
    unfolding Does
    not_trap (At s') d e = cc
    not_trap (Over f s') d e = cc
    not_trap Trap d e = d

    pub sound : act p c (get_or p.code s.place PushTrue) s ≢ Trap
    unfolding operation
    sound = not_trap _ does

    pub ranges : InRange p (get_or p.code s.place PushTrue)
    unfolding operation
    ranges = in_range

    pub depth : length s.stack ≤ 32
    depth = omega (arith, length-kinds s.stack, ap length k.kinds, fine.shallow)

    pub room : length s.calls < 256
    room = omega (arith, k.nested, number_small p well.in_range s.place)

    budget_by : (x : Option (List ℕ)) (e : Suffices p x) → Spent x e n s → n + 1 ≤ p.budget
    unfolding Spent
    budget_by None paths path = paths n s.place path k.within
    budget_by (Some firsts) (cost, are, enough) spent =
        let paid : cost s.place ≡ cost_by p cost s.place operation = are s.place operation k.reached here in
        omega arith

    pub in_budget : n + 1 ≤ p.budget
    in_budget = budget_by p.procedures well.within.enough k.spent

    pub steps_to : step p c (At s) ≡ act p c (get_or p.code s.place PushTrue) s
    unfolding operation
    steps_to = ap (λ o. at_place p c o s) here

  next : (n : ℕ) (x : Run) → Ok n x → Ok (suc n) (step p c x)
  unfolding Ok
  next n (At s) k = next_ok n s k
  next n (Over f s) k = tt
  next n Trap k = k

  spent_start : (x : Option (List ℕ)) (e : Suffices p x) → Spent x e 0 start
  unfolding Spent total
  spent_start None paths = refl
  spent_start (Some firsts) (cost, are, enough) = omega (arith, enough)

  ok : (n : ℕ) → Ok n (after_steps p c n)
  unfolding Ok kinds Waits
  ok zero = record {
    reached = (0, refl);
    within = well.inside.some;
    kinds = sym good.start;
    waits = tt;
    nested = omega arith;
    spent = spent_start p.procedures well.within.enough;
  }
  ok (suc n) = next n (after_steps p c n) (ok n)

  pub keeps : (n : ℕ) (s : State) → At s ≡ after_steps p c n → Keeps n s
  unfolding Ok
  keeps n s e = subst (Ok n) (sym e) (ok n)

  pub never_traps : (n : ℕ) → after_steps p c n ≢ Trap
  unfolding Ok
  never_traps n e = subst (Ok n) e (ok n)
