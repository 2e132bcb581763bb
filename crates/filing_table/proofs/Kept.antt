-- A program of version 1 runs as it did before there were procedures.
use Rattle.std.proofs.Common.{◌≡◌, ℕ, zero, suc, ◌+◌, ◌<◌, ◌≤◌, Bool, true, false, not, ◌||◌, List, ◌∷◌, ◌++◌}
use Rattle.std.proofs.Common.{length, map, get_or, Option, Some, None, refl, sym, ap, ◌∙◌, arith, slice_get, slice_set}
use Rattle.std.specs.Prelude.{◌↔◌, if◌then◌else◌, nat_lt, nat_le, nat_eq, slice_index_or}
use Rattle.std.specs.List.{list_any}
use Rattle.std.proofs.lemmas.List.{get_or-map, length-map}
use Rattle.std.proofs.lemmas.Option.{slice_get_within, slice_get-get_or}
use Rattle.filing_image.specs.declared.instruction.Instruction.{Instruction}
use Rattle.filing_image.specs.declared.instruction.Operation.{Operation}
use Rattle.filing_image.specs.declared.instruction.Operation.TheVariants.{PushTrue, PushFalse, Not, Values, Join, Match, Pop, Exists, Size, Number}
use Rattle.filing_image.specs.declared.instruction.Operation.TheVariants.{Less, JumpIf, JumpUnless, Marked, Mark, File, Fault, Call, Return}
use Rattle.filing_image.specs.Program.{Program, parts, instruction_of, version_of}
use Rattle.filing_image.specs.Spelling.{IsOfVersion, last_operation}
use Rattle.class_paths.specs.Paths.{insert_path}
use Rattle.sieve_meaning.specs.declared.outcome.Outcome.{Outcome}
use Rattle.sieve_meaning.specs.declared.run_fault.RunFault.{RunFault}
use Rattle.sieve_meaning.specs.declared.run_fault.RunFault.TheVariants.{ClassNotOpen}
use Rattle.sieve_meaning.specs.RunFaults.{fault_of}
use Rattle.sieve_meaning.specs.Case.{Facts}
use Rattle.sieve_meaning.specs.Truth.{has_field}
use Rattle.filing_table.specs.Machine.{Entry, T, L, N, State, Run, At, Over, Trap, with_stack, values_of, comparison_holds, with_named, only_if, file}
use Rattle.filing_table.specs.Machine.{on_stack, at_place, step, after_steps}
use Rattle.filing_table.specs.Ends.{HasOutcome}
use Rattle.filing_table.specs.VersionOne as one

-- the state without the places to return to
abbrev forget : State → one.State
forget s = record { place = s.place; stack = s.stack; filed = s.filed; kept = s.kept; cancelled = s.cancelled; marks = s.marks }

abbrev forgotten : Run → one.Run
forgotten (At s) = one.At (forget s)
forgotten (Over f s) = one.Over f (forget s)
forgotten Trap = one.Trap

-- an operation of version 1
abbrev IsOld : Operation → Type 0
IsOld (Call b) = ⊥
IsOld Return = ⊥
IsOld o = Unit {0}

-- ---- one instruction

chosen : (b : Bool) (x y : Run) → forgotten (if b then x else y) ≡ (if b then forgotten x else forgotten y)
chosen true x y = refl
chosen false x y = refl

stack_is : (s : State) (es : List Entry) → forgotten (with_stack s es) ≡ one.with_stack (forget s) es
stack_is s es = chosen (nat_lt 32 (length es)) Trap (At (record s { place = s.place + 1; stack = es }))

named_is : {A : Type 0} (x : Option A) (go : A → Run) (past : A → one.Run) → ((a : A) → forgotten (go a) ≡ past a)
    → forgotten (with_named x go) ≡ one.with_named x past
named_is None go past same = refl
named_is (Some a) go past same = same a

named_stack : {A : Type 0} (x : Option A) (s : State) (es : A → List Entry)
    → forgotten (with_named x (λ a. with_stack s (es a))) ≡ one.with_named x (λ a. one.with_stack (forget s) (es a))
named_stack None s es = refl
named_stack (Some a) s es = stack_is s (es a)

only_is : (b : Bool) (x : Run) (y : one.Run) → forgotten x ≡ y → forgotten (only_if b x) ≡ one.only_if b y
only_is true x y same = same
only_is false x y same = refl

file_is : (c : Facts) (s : State) (a : ℕ) (path : List ℕ) → forgotten (file c s a path) ≡ one.file c (forget s) a path
file_is c s a path =
    chosen (c.is_open path) (At (record s {
      place = s.place + 1;
      filed = insert_path path s.filed;
      cancelled =
          s.cancelled || nat_eq a 0;
    })) (Over (Some ClassNotOpen) s)

module _ (p : Program) (c : Facts) where
  acts : (o : Operation) (s : State) (es : List Entry) → IsOld o → forgotten (on_stack p c o s es) ≡ one.on_stack p c o (forget s) es
  acts PushTrue s es old = stack_is s (T true ∷ es)
  acts PushFalse s es old = stack_is s (T false ∷ es)
  acts Not s (T b ∷ es) old = stack_is s (T (not b) ∷ es)
  acts (Values b) s es old = named_stack (slice_get p.texts b) s (λ name. L (values_of c name) ∷ es)
  acts Join s (L ys ∷ L xs ∷ es) old = stack_is s (L (xs ++ ys) ∷ es)
  acts (Match a b) s (L xs ∷ es) old =
      let es' : List ℕ → List Entry = λ key. T (list_any (comparison_holds a key) xs) ∷ L xs ∷ es in
      only_is (nat_le a 5) (with_named (slice_get p.texts b) (λ key. with_stack s (es' key)))
      (one.with_named (slice_get p.texts b) (λ key. one.with_stack (forget s) (es' key)))
      (named_stack (slice_get p.texts b) s es')
  acts Pop s (e ∷ es) old = stack_is s es
  acts (Exists b) s es old = named_stack (slice_get p.texts b) s (λ name. T (has_field c name) ∷ es)
  acts Size s es old = stack_is s (N c.size ∷ es)
  acts (Number b) s es old = named_stack (slice_get p.numbers b) s (λ n. N n ∷ es)
  acts Less s (N y ∷ N x ∷ es) old = stack_is s (T (nat_lt x y) ∷ es)
  acts (JumpIf b) s (T t ∷ es) old = refl
  acts (JumpUnless b) s (T t ∷ es) old = refl
  acts (Marked b) s es old =
      only_is (nat_lt b p.slots) (with_stack s (T (slice_index_or s.marks b false) ∷ es))
      (one.with_stack (forget s) (T (slice_index_or s.marks b false) ∷ es))
      (stack_is s (T (slice_index_or s.marks b false) ∷ es))
  acts (Mark b) s es old =
      only_is (nat_lt b p.slots) (At (record s { place = s.place + 1; marks = slice_set s.marks b true }))
      (one.At (record (forget s) { place = s.place + 1; marks = slice_set s.marks b true })) refl
  acts (File a b) s es old =
      only_is (nat_le a 1) (with_named (slice_get p.texts b) (file c s a))
      (one.with_named (slice_get p.texts b) (one.file c (forget s) a))
      (named_is (slice_get p.texts b) (file c s a) (one.file c (forget s) a) (file_is c s a))
  acts (Fault a) s es old =
      only_is (nat_le 2 a) (with_named (fault_of a) (λ fault. Over (Some fault) s))
      (one.with_named (fault_of a) (λ fault. one.Over (Some fault) (forget s))) (named_is (fault_of a) (λ fault.
      Over (Some fault) s) (λ fault. one.Over (Some fault) (forget s)) (λ fault. refl))
  acts (Call b) s es old = absurd old
  acts Return s es old = absurd old
  acts o s es old = refl

  module _ (none : p.procedures ≡ None) (known : IsOfVersion (parts p)) where
    last_is : last_operation (version_of p.procedures) ≡ 21
    last_is = ap (λ (x : Option (List ℕ)). last_operation (version_of x)) none

    is_old : (o : Operation) → (instruction_of o).op ≤ 21 → IsOld o
    is_old (Call b) le = omega arith
    is_old Return le = omega arith
    is_old o le = tt

    old_at : (i : ℕ) (o : Operation) → slice_get p.code i ≡ Some o → IsOld o
    old_at i o at =
        let within : i < length p.code = slice_get_within p.code i o at in
        let e : slice_get p.code i ≡ Some (get_or p.code i o) = slice_get-get_or p.code i o within in
        let same : get_or p.code i o ≡ o = cc (e, at) in
        let d : Instruction = instruction_of o in
        let le : (get_or (map instruction_of p.code) i d).op ≤ last_operation (version_of p.procedures) =
        known i d (omega (arith, length-map p.code instruction_of)) in
        let there : get_or (map instruction_of p.code) i d ≡ instruction_of o =
        get_or-map instruction_of p.code i o d within ∙ ap instruction_of same in
        is_old o (rw (last_is, there) at le)

    placed : (s : State) (x : Option Operation) → slice_get p.code s.place ≡ x → forgotten (at_place p c x s) ≡ one.at_place p c x (forget s)
    placed s None at = refl
    placed s (Some o) at = acts o s s.stack (old_at s.place o at)

    steps : (r : Run) → forgotten (step p c r) ≡ one.step p c (forgotten r)
    steps (At s) = placed s (slice_get p.code s.place) refl
    steps (Over f s) = refl
    steps Trap = refl

    same_run : (n : ℕ) → forgotten (after_steps p c n) ≡ one.after_steps p c n
    same_run zero = refl
    same_run (suc n) = steps (after_steps p c n) ∙ ap (one.step p c) (same_run n)

    at_back : (r : Run) (t : one.State) → forgotten r ≡ one.At t → (s : State) × (r ≡ At s)
    at_back (At s) t e = (s, refl)
    at_back (Over f s) t e = absurd cc
    at_back Trap t e = absurd cc

    over_back : (r : Run) (f : Option RunFault) (t : one.State) → forgotten r ≡ one.Over f t → (s : State) × (r ≡ Over f s) × (forget s ≡ t)
    over_back (At s) f t e = absurd cc
    over_back (Over g s) f t e = let same : g ≡ f = cc in (s, ap (λ (x : Option RunFault). Over x s) same, cc)
    over_back Trap f t e = absurd cc

    outcome_to : (n : ℕ) (o : Outcome) → HasOutcome p c n o → one.HasOutcome p c n o
    outcome_to n o (fault, s, ends, is) = (
      fault,
      forget s,
      record {
        over = sym (same_run n) ∙ ap forgotten ends.over;
        going = λ k lt. let (t, e) = ends.going k lt in
            (forget t, sym (same_run k) ∙ ap forgotten e);
      },
      is,
    )

    outcome_from : (n : ℕ) (o : Outcome) → one.HasOutcome p c n o → HasOutcome p c n o
    outcome_from n o (fault, t, ends, is) =
        let back = over_back (after_steps p c n) fault t (same_run n ∙ ends.over) in (
          fault,
          back.0,
          record { over = back.1; going = λ k lt. let (u, e) = ends.going k lt in at_back (after_steps p c k) u (same_run k ∙ e) },
          ap (λ (x : one.State). one.outcome_left fault x) back.2 ∙ is,
        )

pub runs_as_before : (p : Program) (c : Facts) (n : ℕ) (o : Outcome) → p.procedures ≡ None → IsOfVersion (parts p)
    → (HasOutcome p c n o ↔ one.HasOutcome p c n o)
runs_as_before p c n o none known = (outcome_to p c none known n o, outcome_from p c none known n o)
