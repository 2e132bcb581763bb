-- The classes of a run's outcome: the default class, and paths that are open in the case.
use Rattle.std.proofs.Common.{◌≡◌, ℕ, zero, suc, ◌+◌, List, [], ◌∷◌, ◌++◌, refl, subst, inl, inr, Bool, true, false, not, Option, Some, None, length}
use Rattle.std.specs.Prelude.{◌⊎◌, ◌||◌, if◌then◌else◌, nat_le, nat_lt, nat_eq, slice_get, slice_index_or, slice_set}
use Rattle.std.specs.List.{AllByRecursion, list_any}
use Rattle.class_paths.specs.Path.{unfiled}
use Rattle.class_paths.specs.Paths.{Paths, insert_path, IsIncreasing}
use Rattle.sieve_meaning.specs.declared.outcome.Outcome.{Outcome}
use Rattle.sieve_meaning.specs.declared.run_fault.RunFault.{RunFault}
use Rattle.sieve_meaning.specs.declared.run_fault.RunFault.TheVariants.{ClassNotOpen}
use Rattle.sieve_meaning.specs.RunFaults.{fault_of}
use Rattle.sieve_meaning.specs.Case.{Facts}
use Rattle.sieve_meaning.specs.Outcome.{outcome_at}
use Rattle.class_paths.proofs.PathLemmas.{all_in_insert_path, insert_path_increasing, none_increasing}
use Rattle.filing_image.specs.Program.{Program, first_places}
use Rattle.filing_image.specs.declared.instruction.Operation.{Operation}
use Rattle.filing_image.specs.declared.instruction.Operation.TheVariants.{PushTrue, PushFalse, Not, Values, Join, Match}
use Rattle.filing_image.specs.declared.instruction.Operation.TheVariants.{Pop, Exists, Size, Number, Less as LessThan}
use Rattle.filing_image.specs.declared.instruction.Operation.TheVariants.{Jump, JumpIf, JumpUnless, Marked, Mark, File}
use Rattle.filing_image.specs.declared.instruction.Operation.TheVariants.{Keep, Discard, Stop, Fault, Call, Return}
use Rattle.filing_table.specs.Machine.{Entry, T, L, N, State, Run, At, Over, Trap, comparison_holds, values_of}
use Rattle.filing_table.specs.Machine.{with_stack, with_named, only_if, file, enter, go_back, on_stack, at_place, step}
use Rattle.filing_table.specs.Machine.{after_steps}
use Rattle.sieve_meaning.specs.Truth.{has_field}
use Rattle.filing_table.specs.Ends.{HasOutcome}

-- paths that are open, in byte order, each once
record IsFiled (c : Facts) (filed : Paths) : Type 0 where
  open_paths : AllByRecursion (λ q. c.is_open q ≡ true) filed
  in_order : IsIncreasing filed

-- the paths that a run has filed are such
abbrev HasFiled : Facts → Run → Type 0
HasFiled c (At s) = IsFiled c s.filed
HasFiled c (Over f s) = IsFiled c s.filed
HasFiled c Trap = Unit {0}

module _ (p : Program) (c : Facts) where
  on : (s : State) (es : List Entry) → IsFiled c s.filed → HasFiled c (with_stack s es)
  on s es h = elim (nat_lt 32 (length es)) as (λ b.
      HasFiled c (if b then Trap else At (record s { place = s.place + 1; stack = es }))) [ true ↦ tt | false ↦ h ]

  named : {A : Type 0} (o : Option A) (go : A → Run) → ((x : A) → HasFiled c (go x)) → HasFiled c (with_named o go)
  named None go h = tt
  named (Some x) go h = h x

  only : (b : Bool) (r : Run) → HasFiled c r → HasFiled c (only_if b r)
  only true r h = h
  only false r h = tt

  filed_under : (s : State) (a : ℕ) (path : List ℕ) → IsFiled c s.filed → HasFiled c (file c s a path)
  filed_under s a path h =
      (elim (c.is_open path) as (λ b. c.is_open path ≡ b
      → HasFiled c (if b then At (record s {
        place = s.place + 1;
        filed = insert_path path s.filed;
        cancelled =
            s.cancelled || nat_eq a 0;
      }) else Over (Some ClassNotOpen) s)) [
        | true ↦ λ e. record {
          open_paths = all_in_insert_path (λ q. c.is_open q ≡ true) s.filed path e h.open_paths;
          in_order = insert_path_increasing s.filed path h.in_order;
        }
        | false ↦ λ e. h
      ]) refl

  gone_back : (s : State) (places : List ℕ) → IsFiled c s.filed → HasFiled c (go_back s places)
  gone_back s [] h = h
  gone_back s (place ∷ places) h = h

  acted : (o : Operation) (s : State) (es : List Entry) → IsFiled c s.filed → HasFiled c (on_stack p c o s es)
  acted PushTrue s es h = on s (T true ∷ es) h
  acted PushFalse s es h = on s (T false ∷ es) h
  acted Not s (T b ∷ es) h = on s (T (not b) ∷ es) h
  acted Not s _ h = tt
  acted (Values b) s es h = named (slice_get p.texts b) (λ name. with_stack s (L (values_of c name) ∷ es)) (λ name.
      on s (L (values_of c name) ∷ es) h)
  acted Join s (L ys ∷ L xs ∷ es) h = on s (L (xs ++ ys) ∷ es) h
  acted Join s _ h = tt
  acted (Match a b) s (L xs ∷ es) h =
      let go : List ℕ → Run = λ key. with_stack s (T (list_any (comparison_holds a key) xs) ∷ L xs ∷ es) in
      only (nat_le a 5) (with_named (slice_get p.texts b) go) (named (slice_get p.texts b) go (λ key.
      on s (T (list_any (comparison_holds a key) xs) ∷ L xs ∷ es) h))
  acted (Match a b) s _ h = tt
  acted Pop s (e ∷ es) h = on s es h
  acted Pop s _ h = tt
  acted (Exists b) s es h = named (slice_get p.texts b) (λ name. with_stack s (T (has_field c name) ∷ es)) (λ name.
      on s (T (has_field c name) ∷ es) h)
  acted Size s es h = on s (N c.size ∷ es) h
  acted (Number b) s es h = named (slice_get p.numbers b) (λ n. with_stack s (N n ∷ es)) (λ n. on s (N n ∷ es) h)
  acted LessThan s (N y ∷ N x ∷ es) h = on s (T (nat_lt x y) ∷ es) h
  acted LessThan s _ h = tt
  acted (Jump b) s es h = h
  acted (JumpIf b) s (T t ∷ es) h = h
  acted (JumpIf b) s _ h = tt
  acted (JumpUnless b) s (T t ∷ es) h = h
  acted (JumpUnless b) s _ h = tt
  acted (Marked b) s es h =
      only (nat_lt b p.slots) (with_stack s (T (slice_index_or s.marks b false) ∷ es))
      (on s (T (slice_index_or s.marks b false) ∷ es) h)
  acted (Mark b) s es h = only (nat_lt b p.slots) (At (record s { place = s.place + 1; marks = slice_set s.marks b true })) h
  acted (File a b) s es h =
      only (nat_le a 1) (with_named (slice_get p.texts b) (file c s a))
      (named (slice_get p.texts b) (file c s a) (λ path. filed_under s a path h))
  acted Keep s es h = h
  acted Discard s es h = h
  acted Stop s es h = h
  acted (Fault a) s es h =
      only (nat_le 2 a) (with_named (fault_of a) (λ fault. Over (Some fault) s)) (named (fault_of a) (λ fault.
      Over (Some fault) s) (λ fault. h))
  acted (Call b) s [] h = named (slice_get (first_places p) b) (enter s) (λ first. h)
  acted (Call b) s _ h = tt
  acted Return s [] h = gone_back s s.calls h
  acted Return s _ h = tt

  at_placed : (o : Option Operation) (s : State) → IsFiled c s.filed → HasFiled c (at_place p c o s)
  at_placed None s h = tt
  at_placed (Some o) s h = acted o s s.stack h

  stepped : (r : Run) → HasFiled c r → HasFiled c (step p c r)
  stepped (At s) h = at_placed (slice_get p.code s.place) s h
  stepped (Over f s) h = h
  stepped Trap h = tt

  after : (n : ℕ) → HasFiled c (after_steps p c n)
  after zero = record { open_paths = tt; in_order = none_increasing }
  after (suc n) = stepped (after_steps p c n) (after n)

-- the default class, or an open path
abbrev IsOpenClass : Facts → List ℕ → Type 0
IsOpenClass c q = (q ≡ unfiled) ⊎ (c.is_open q ≡ true)

pub record AreOpenClasses (c : Facts) (classes : Paths) : Type 0 where
  pub each : AllByRecursion (IsOpenClass c) classes
  pub in_order : IsIncreasing classes

as_classes : (c : Facts) (xs : Paths) → AllByRecursion (λ q. c.is_open q ≡ true) xs → AllByRecursion (IsOpenClass c) xs
as_classes c [] h = tt
as_classes c (x ∷ xs) h = (inr h.0, as_classes c xs h.1)

with_default : (c : Facts) (filed : Paths) → IsFiled c filed → AreOpenClasses c (insert_path unfiled filed)
with_default c filed h = record {
  each = all_in_insert_path (IsOpenClass c) filed unfiled (inl refl) (as_classes c filed h.open_paths);
  in_order = insert_path_increasing filed unfiled h.in_order;
}

left : (c : Facts) (fault : Option RunFault) (filed : Paths) (kept cancelled : Bool) → IsFiled c filed
    → AreOpenClasses c (outcome_at fault filed kept cancelled).classes
left c (Some fault) filed kept cancelled h = record { each = (inl refl, tt); in_order = insert_path_increasing [] unfiled none_increasing }
left c None filed kept cancelled h =
    elim (kept || not cancelled) as (λ b. AreOpenClasses c (if b then insert_path unfiled filed else filed)) [
      | true ↦ with_default c filed h
      | false ↦ record { each = as_classes c filed h.open_paths; in_order = h.in_order }
    ]

pub classes_open : (p : Program) (c : Facts) (n : ℕ) (o : Outcome) → HasOutcome p c n o → AreOpenClasses c o.classes
classes_open p c n o (fault, s, ends, is) =
    let P : Run → Type 0 = HasFiled c in
    let filed : IsFiled c s.filed = subst P ends.over (after p c n) in
    let Q : Outcome → Type 0 = λ x. AreOpenClasses c x.classes in
    subst Q is (left c fault s.filed s.kept s.cancelled filed)
