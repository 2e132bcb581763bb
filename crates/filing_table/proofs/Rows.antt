-- The table machine on small programs, whose runs are known: each line computes.
use Rattle.std.proofs.Common.{◌≡◌, ℕ, List, [], ◌∷◌, ◌++◌, map, length, true, false, Option, Some, None, codes, refl}
use Rattle.std.specs.Prelude.{replicate}
use Rattle.std.specs.Str.{bytes_eq}
use Rattle.filing_image.specs.declared.instruction.Operation.{Operation}
use Rattle.filing_image.specs.declared.instruction.Operation.TheVariants.{PushTrue, PushFalse, Not, Values, Join, Match, Pop, Exists, Size, Number}
use Rattle.filing_image.specs.declared.instruction.Operation.TheVariants.{Less, Jump, JumpIf, JumpUnless, Marked, Mark, File, Keep, Discard, Stop}
use Rattle.filing_image.specs.declared.instruction.Operation.TheVariants.{Fault, Call, Return}
use Rattle.filing_image.specs.Program.{Program}
use Rattle.class_paths.specs.Path.{unfiled}
use Rattle.sieve_meaning.specs.declared.outcome.Outcome.{Outcome}
use Rattle.sieve_meaning.specs.declared.run_fault.RunFault.{RunFault}
use Rattle.sieve_meaning.specs.declared.run_fault.RunFault.TheVariants.{ClassNotOpen, ScriptMissing, NestingTooDeep, TooHeavy}
use Rattle.sieve_meaning.specs.Case.{Facts, Field}
use Rattle.sieve_meaning.specs.Matching.{items_from, suffixes, equals, contains, covers}
use Rattle.filing_table.specs.Machine.{Entry, T, L, Run, At, Over, Trap, after_steps}
use Rattle.filing_table.specs.Ends.{outcome_left}

abbrev field : List ℕ → List ℕ → Field
field name value = record { name = name; value = value }

-- two fields of one name in other letters, ten octets, and the class `a` open
abbrev facts : Facts
facts = record {
  size = 10;
  fields = field (codes "To") (codes "x") ∷ field (codes "From") (codes "yb")
      ∷ field (codes "TO") (codes "z") ∷ [];
  is_open = bytes_eq (codes "a");
}

abbrev program : List Operation → Program
program code = record {
  budget = 100;
  texts = codes "to" ∷ codes "Z" ∷ codes "a" ∷ codes "b" ∷ codes "from" ∷ [];
  numbers = 10 ∷ 9 ∷ [];
  slots = 2;
  procedures = None;
  code = code;
}

-- the topmost entries first
abbrev stack_of : Run → List Entry
stack_of (At s) = s.stack
stack_of _ = []

abbrev stack_after : List Operation → ℕ → List Entry
stack_after code n = stack_of (after_steps (program code) facts n)

abbrev place_of : Run → ℕ
place_of (At s) = s.place
place_of _ = 99

-- a run that has not ended has an outcome of no run
abbrev captured : Run → Outcome
captured (Over f s) = outcome_left f s
captured _ = record { classes = []; fault = Some TooHeavy }

-- each code, a number of steps, and the stack after them
abbrev stacks : List (List Operation × ℕ × List Entry)
stacks =
    (PushTrue ∷ PushFalse ∷ Not ∷ [], 3, T true ∷ T true ∷ []) ∷
    -- names ignore case, and the values come in the order of the message
    (Values 0 ∷ [], 1, L (codes "x" ∷ codes "z" ∷ []) ∷ []) ∷
    -- the list that was pushed first comes first
    (Values 4 ∷ Values 0 ∷ Join ∷ [], 3, L (codes "yb" ∷ codes "x" ∷ codes "z" ∷ []) ∷ []) ∷
    -- the list stays below the truth; `i;octet` tells `z` from `Z`, and `i;ascii-casemap` does not
    (Values 0 ∷ Match 0 1 ∷ [], 2, T false ∷ L (codes "x" ∷ codes "z" ∷ []) ∷ []) ∷
    (Values 0 ∷ Match 1 1 ∷ [], 2, T true ∷ L (codes "x" ∷ codes "z" ∷ []) ∷ []) ∷
    (Values 0 ∷ Match 3 1 ∷ Pop ∷ [], 3, L (codes "x" ∷ codes "z" ∷ []) ∷ []) ∷
    (Values 4 ∷ Match 5 0 ∷ [], 2, T false ∷ L (codes "yb" ∷ []) ∷ []) ∷
    -- the number of a comparison: 0 is `:is`, 2 `:contains`, 4 `:matches`, each under `i;octet`, and `b` is only a part of
    -- `yb`
    (Values 4 ∷ Match 0 3 ∷ [], 2, T false ∷ L (codes "yb" ∷ []) ∷ []) ∷
    (Values 4 ∷ Match 2 3 ∷ [], 2, T true ∷ L (codes "yb" ∷ []) ∷ []) ∷
    (Values 0 ∷ Match 2 1 ∷ [], 2, T false ∷ L (codes "x" ∷ codes "z" ∷ []) ∷ []) ∷
    (Values 4 ∷ Match 4 3 ∷ [], 2, T false ∷ L (codes "yb" ∷ []) ∷ []) ∷
    (Exists 0 ∷ Exists 2 ∷ [], 2, T false ∷ T true ∷ []) ∷
    -- 10 is less than the size, which is 10: no; 9 is: yes
    (Number 0 ∷ Size ∷ Less ∷ Number 1 ∷ Size ∷ Less ∷ [], 6, T true ∷ T false ∷ []) ∷
    (Marked 1 ∷ Mark 1 ∷ Marked 1 ∷ Marked 0 ∷ [], 4, T false ∷ T true ∷ T false ∷ []) ∷
    []

stacks_are : map (λ r. stack_after r.0 r.1) stacks ≡ map (λ r. r.2) stacks
unfolding items_from suffixes equals contains covers
stacks_are = refl

-- each code, a number of steps, and the place after them
abbrev places : List (List Operation × ℕ × ℕ)
places =
    (PushFalse ∷ JumpIf 3 ∷ Stop ∷ Stop ∷ [], 2, 2) ∷
    (PushFalse ∷ JumpUnless 3 ∷ Stop ∷ Stop ∷ [], 2, 3) ∷
    (Jump 2 ∷ Stop ∷ Stop ∷ [], 1, 2) ∷
    []

places_are : map (λ r. place_of (after_steps (program r.0) facts r.1)) places ≡ map (λ r. r.2) places
places_are = refl

abbrev ended : List (List ℕ) → Option RunFault → Outcome
ended classes fault = record { classes = classes; fault = fault }

-- each code, a number of steps, and the outcome after them
abbrev outcomes : List (List Operation × ℕ × Outcome)
outcomes =
    -- filing cancels the implicit keep, and a copy does not
    (File 0 2 ∷ File 0 2 ∷ Stop ∷ [], 3, ended (codes "a" ∷ []) None) ∷
    (File 1 2 ∷ Stop ∷ [], 2, ended (codes "a" ∷ unfiled ∷ []) None) ∷
    -- a class that is not open is a fault, and what was filed before it is not captured
    (File 1 2 ∷ File 0 3 ∷ Stop ∷ [], 2, ended (unfiled ∷ []) (Some ClassNotOpen)) ∷
    (Discard ∷ Keep ∷ Stop ∷ [], 3, ended (unfiled ∷ []) None) ∷
    (Discard ∷ Stop ∷ [], 2, ended [] None) ∷
    (Fault 4 ∷ [], 1, ended (unfiled ∷ []) (Some NestingTooDeep)) ∷
    -- an ended run stays as it is
    (Stop ∷ Fault 4 ∷ [], 5, ended (unfiled ∷ []) None) ∷
    -- the faults of a script, from its least operand to its greatest
    (Fault 2 ∷ [], 1, ended (unfiled ∷ []) (Some ScriptMissing)) ∷
    (Fault 5 ∷ [], 1, ended (unfiled ∷ []) (Some TooHeavy)) ∷
    []

outcomes_are : map (λ r. captured (after_steps (program r.0) facts r.1)) outcomes ≡ map (λ r. r.2) outcomes
outcomes_are = refl

abbrev depth_of : Run → ℕ
depth_of (At s) = length s.stack
depth_of _ = 99

thirty_two_entries : depth_of (after_steps (program (replicate 33 PushTrue)) facts 32) ≡ 32
thirty_two_entries = refl

-- each code that is in a trap after a number of steps
abbrev trapped : List (List Operation × ℕ)
trapped =
    -- an operand is missing
    (Not ∷ [], 1) ∷
    (Values 0 ∷ Join ∷ [], 2) ∷
    (Match 0 1 ∷ [], 1) ∷
    (Pop ∷ [], 1) ∷
    (Size ∷ Less ∷ [], 2) ∷
    (JumpIf 1 ∷ Stop ∷ [], 1) ∷
    (JumpUnless 1 ∷ Stop ∷ [], 1) ∷
    -- an operand is of another kind
    (Size ∷ Not ∷ [], 2) ∷
    (PushTrue ∷ Values 0 ∷ Join ∷ [], 3) ∷
    (PushTrue ∷ Match 0 1 ∷ [], 2) ∷
    (PushTrue ∷ Size ∷ Less ∷ [], 3) ∷
    (Size ∷ JumpIf 2 ∷ Stop ∷ [], 2) ∷
    (Size ∷ JumpUnless 2 ∷ Stop ∷ [], 2) ∷
    -- a 33rd entry, where the 32nd fits
    (replicate 33 PushTrue, 33) ∷
    (replicate 32 PushTrue ++ Values 0 ∷ [], 33) ∷
    (replicate 31 PushTrue ++ Values 0 ∷ Match 0 1 ∷ [], 33) ∷
    (replicate 32 PushTrue ++ Number 0 ∷ [], 33) ∷
    -- an operand names no text, number or slot, where there are five texts, two numbers and two slots
    (Exists 5 ∷ [], 1) ∷
    (Values 5 ∷ [], 1) ∷
    (Values 0 ∷ Match 0 5 ∷ [], 2) ∷
    (File 0 5 ∷ [], 1) ∷
    (Number 2 ∷ [], 1) ∷
    (Marked 2 ∷ [], 1) ∷
    (Mark 2 ∷ [], 1) ∷
    -- an operand is outside its values: 0 to 5 of a match, 0 and 1 of a file, 2 to 5 of a fault
    (Values 0 ∷ Match 6 1 ∷ [], 2) ∷
    (File 2 2 ∷ [], 1) ∷
    (Fault 1 ∷ [], 1) ∷
    (Fault 6 ∷ [], 1) ∷
    -- a place is outside the code
    ([], 1) ∷
    (Keep ∷ [], 2) ∷
    (Jump 1 ∷ [], 2) ∷
    -- a trap stays one
    (Not ∷ [], 5) ∷
    []

traps : map (λ r. after_steps (program r.0) facts r.1) trapped ≡ map (λ r. Trap) trapped
traps = refl

-- procedures

-- procedure 0 begins at place 0, and procedure 1 at place 2
abbrev with_procedures : List Operation → Program
with_procedures code = record { budget = 4; texts = []; numbers = []; slots = 0; procedures = Some (0 ∷ 2 ∷ []); code = code }

abbrev worked : Program
worked = with_procedures (Call 1 ∷ Stop ∷ Discard ∷ Return ∷ [])

returned : map (λ n. place_of (after_steps worked facts n)) (1 ∷ 3 ∷ []) ≡ 2 ∷ 1 ∷ []
returned = refl

ended_after_the_call : captured (after_steps worked facts 4) ≡ record { classes = []; fault = None }
ended_after_the_call = refl

-- a return from procedure 0 ends the run as a stop does
returned_at_last : captured (after_steps (with_procedures (Return ∷ Stop ∷ Return ∷ [])) facts 1) ≡ record { classes = unfiled ∷ []; fault = None }
returned_at_last = refl

-- the innermost call is returned from first
abbrev nested : Program
nested = record worked { procedures = Some (0 ∷ 2 ∷ 4 ∷ []); code = Call 1 ∷ Stop ∷ Call 2 ∷ Return ∷ Keep ∷ Return ∷ [] }

returned_in_turn : map (λ n. place_of (after_steps nested facts n)) (4 ∷ 5 ∷ []) ≡ 3 ∷ 1 ∷ []
returned_in_turn = refl

-- an entry stands on the stack at a call, or at a return, or there is no such procedure
trapped_procedures : map (λ (r : List Operation × ℕ). after_steps (with_procedures r.0) facts r.1)
    ((PushTrue ∷ Call 1 ∷ Return ∷ [], 2) ∷ (PushTrue ∷ Return ∷ Return ∷ [], 2) ∷ (Call 2 ∷ Stop ∷ Return ∷ [], 1) ∷ []) ≡ Trap ∷ Trap ∷ Trap ∷ []
trapped_procedures = refl

no_procedure_in_version_one : after_steps (program (Call 0 ∷ Stop ∷ [])) facts 1 ≡ Trap
no_procedure_in_version_one = refl
