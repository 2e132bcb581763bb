-- The table machine: a table of what each instruction does, and a run as one instruction after the other.
use Rattle.std.specs.Prelude.{ℕ, zero, suc, ◌+◌, List, [], ◌∷◌, ◌++◌, map, length, Bool, true, false, not, ◌||◌, nat_lt, nat_le, nat_eq, if◌then◌else◌, Option, Some, None, slice_get, slice_set, slice_index_or, replicate}
use Rattle.std.specs.List.{list_any, filter}
use Rattle.filing_image.specs.declared.instruction.Operation.{Operation}
use Rattle.filing_image.specs.declared.instruction.Operation.TheVariants.{PushTrue, PushFalse, Not, Values, Join, Match, Pop, Exists, Size, Number, Less, Jump, JumpIf, JumpUnless, Marked, Mark, File, Keep, Discard, Stop, Fault, Call, Return}
use Rattle.filing_image.specs.Program.{Program, first_places}
use Rattle.class_paths.specs.Paths.{Paths, insert_path}
use Rattle.sieve_meaning.specs.declared.matching.Comparator.TheVariants as comparators
use Rattle.sieve_meaning.specs.declared.matching.MatchType.TheVariants as match_types
use Rattle.sieve_meaning.specs.Matching.{key_matches}
use Rattle.sieve_meaning.specs.declared.run_fault.RunFault.{RunFault}
use Rattle.sieve_meaning.specs.declared.run_fault.RunFault.TheVariants.{ClassNotOpen}
use Rattle.sieve_meaning.specs.RunFaults.{fault_of}
use Rattle.sieve_meaning.specs.Case.{Facts, is_named}
use Rattle.sieve_meaning.specs.Truth.{has_field}

-- an entry of the stack: a truth value, a list of values, a number
pub data Entry : Type 0 where
  T : Bool → Entry
  L : List (List ℕ) → Entry
  N : ℕ → Entry

-- the state of a run: place is the program counter, and the topmost entry of the stack comes first
pub record State : Type 0 where
  pub place : ℕ
  pub stack : List Entry
  -- the set of the paths that were filed
  pub filed : Paths
  pub kept : Bool
  pub cancelled : Bool
  -- whether each slot is set
  pub marks : List Bool
  -- the places to return to, that of the last call first
  pub calls : List ℕ

-- where a run is: before an instruction, at its end with or without a fault, or trapped
pub data Run : Type 0 where
  At : State → Run
  Over : Option RunFault → State → Run
  Trap : Run

-- at place 0, with nothing done
abbrev pub start : State
start = record { place = 0; stack = []; filed = []; kept = false; cancelled = false; marks = replicate 64 false; calls = [] }

-- the values of the fields of this name, in the order of the message
abbrev pub values_of : Facts → List ℕ → List (List ℕ)
values_of c name = map (λ f. f.value) (filter (is_named name) c.fields)

-- goes on to the next place with this stack; a trap where it has more than 32 entries
abbrev pub with_stack : State → List Entry → Run
with_stack s stack = if nat_lt 32 (length stack) then Trap else At (record s { place = s.place + 1; stack = stack })

-- goes on with the text, number, first place or fault that an operand names; a trap where there is none
abbrev pub with_named : {A : Type 0} → Option A → (A → Run) → Run
with_named None go = Trap
with_named (Some x) go = go x

abbrev pub only_if : Bool → Run → Run
only_if b r = if b then r else Trap

-- whether a value matches a key (RFC 5228, sections 2.7.1 and 2.7.3), by the number of the comparison: under `i;octet`
-- 0 is `:is`, 2 `:contains` and 4 `:matches`; under `i;ascii-casemap` it is one more
abbrev pub comparison_holds : ℕ → (key value : List ℕ) → Bool
comparison_holds zero = key_matches match_types.Is comparators.Octet
comparison_holds (suc zero) = key_matches match_types.Is comparators.Casemap
comparison_holds (suc (suc zero)) = key_matches match_types.Contains comparators.Octet
comparison_holds (suc (suc (suc zero))) = key_matches match_types.Contains comparators.Casemap
comparison_holds (suc (suc (suc (suc zero)))) = key_matches match_types.Matches comparators.Octet
comparison_holds (suc (suc (suc (suc (suc n))))) = key_matches match_types.Matches comparators.Casemap

-- jumps to place b where go holds, and else goes on to the next place
abbrev pub jump : State → List Entry → Bool → ℕ → Run
jump s rest go b = At (record s { place = if go then b else s.place + 1; stack = rest })

-- files under a path where it is open, and ends with a fault where it is not; 0 cancels the implicit keep, and 1 is a
-- copy (RFC 3894, section 3)
abbrev pub file : Facts → State → ℕ → List ℕ → Run
file c s a path =
    if c.is_open path
    then At (record s { place = s.place + 1; filed = insert_path path s.filed; cancelled = s.cancelled || nat_eq a 0 })
    else Over (Some ClassNotOpen) s

-- into a procedure, and after it on to the next place
abbrev pub enter : State → ℕ → Run
enter s first = At (record s { place = first; calls = (s.place + 1) ∷ s.calls })

-- on after the last call that was not returned from yet, and the end where there is none
abbrev pub go_back : State → List ℕ → Run
go_back s [] = Over None s
go_back s (place ∷ others) = At (record s { place = place; calls = others })

-- what an instruction does, by its operands and the stack
abbrev pub on_stack : Program → Facts → Operation → State → List Entry → Run
on_stack p c PushTrue s es = with_stack s (T true ∷ es)
on_stack p c PushFalse s es = with_stack s (T false ∷ es)
on_stack p c Not s (T b ∷ es) = with_stack s (T (not b) ∷ es)
on_stack p c Not s _ = Trap
on_stack p c (Values b) s es = with_named (slice_get p.texts b) (λ name. with_stack s (L (values_of c name) ∷ es))
on_stack p c Join s (L ys ∷ L xs ∷ es) = with_stack s (L (xs ++ ys) ∷ es)
on_stack p c Join s _ = Trap
on_stack p c (Match a b) s (L xs ∷
    es) = only_if (nat_le a 5)
    (with_named (slice_get p.texts b) (λ key. with_stack s (T (list_any (comparison_holds a key) xs) ∷ L xs ∷ es)))
on_stack p c (Match a b) s _ = Trap
on_stack p c Pop s (e ∷ es) = with_stack s es
on_stack p c Pop s _ = Trap
on_stack p c (Exists b) s es = with_named (slice_get p.texts b) (λ name. with_stack s (T (has_field c name) ∷ es))
on_stack p c Size s es = with_stack s (N c.size ∷ es)
on_stack p c (Number b) s es = with_named (slice_get p.numbers b) (λ n. with_stack s (N n ∷ es))
on_stack p c Less s (N y ∷ N x ∷ es) = with_stack s (T (nat_lt x y) ∷ es)
on_stack p c Less s _ = Trap
on_stack p c (Jump b) s es = jump s es true b
on_stack p c (JumpIf b) s (T t ∷ es) = jump s es t b
on_stack p c (JumpIf b) s _ = Trap
on_stack p c (JumpUnless b) s (T t ∷ es) = jump s es (not t) b
on_stack p c (JumpUnless b) s _ = Trap
on_stack p c (Marked b) s es = only_if (nat_lt b p.slots) (with_stack s (T (slice_index_or s.marks b false) ∷ es))
on_stack p c (Mark b) s es = only_if (nat_lt b p.slots)
    (At (record s { place = s.place + 1; marks = slice_set s.marks b true }))
on_stack p c (File a b) s es = only_if (nat_le a 1) (with_named (slice_get p.texts b) (file c s a))
on_stack p c Keep s es = At (record s { place = s.place + 1; kept = true })
on_stack p c Discard s es = At (record s { place = s.place + 1; cancelled = true })
on_stack p c Stop s es = Over None s
on_stack p c (Fault a) s es = only_if (nat_le 2 a) (with_named (fault_of a) (λ fault. Over (Some fault) s))
on_stack p c (Call b) s [] = with_named (slice_get (first_places p) b) (enter s)
on_stack p c (Call b) s _ = Trap
on_stack p c Return s [] = go_back s s.calls
on_stack p c Return s _ = Trap

abbrev pub act : Program → Facts → Operation → State → Run
act p c o s = on_stack p c o s s.stack

abbrev pub at_place : Program → Facts → Option Operation → State → Run
at_place p c None s = Trap
at_place p c (Some o) s = act p c o s

-- one step: the instruction at the place of the run
abbrev pub step : Program → Facts → Run → Run
step p c (At s) = at_place p c (slice_get p.code s.place) s
step p c (Over f s) = Over f s
step p c Trap = Trap

-- where the run is after n steps
abbrev pub after_steps : Program → Facts → ℕ → Run
after_steps p c zero = At start
after_steps p c (suc n) = step p c (after_steps p c n)
