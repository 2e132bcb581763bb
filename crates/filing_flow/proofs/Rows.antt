-- Small code in blocks, whose operations and effects are known: each line computes.
use Rattle.std.proofs.Common.{◌≡◌, ℕ, ◌≤◌, List, [], ◌∷◌, true, false, Some, None, codes, refl, subst, arith}
use Rattle.std.specs.Prelude.{slice_get}
use Rattle.std.specs.Str.{bytes_eq}
use Rattle.filing_image.specs.declared.instruction.Operation.{Operation}
use Rattle.filing_image.specs.declared.instruction.Operation.TheVariants.{PushTrue, PushFalse, Jump, JumpIf, JumpUnless}
use Rattle.filing_image.specs.declared.instruction.Operation.TheVariants.{Exists, Number, File, Keep, Stop}
use Rattle.filing_image.specs.Program.{Program}
use Rattle.filing_verify.specs.declared.kind.Kind.TheVariants.{Truth}
use Rattle.class_paths.specs.Path.{unfiled}
use Rattle.sieve_meaning.specs.Case.{Facts}
use Rattle.sieve_meaning.specs.declared.outcome.Outcome.{Outcome}
use Rattle.sieve_meaning.specs.declared.run_fault.RunFault.TheVariants.{ClassNotOpen, TooHeavy}
use Rattle.filing_table.specs.Machine.{T, Run, Over, after_steps}
use Rattle.filing_table.specs.Ends.{outcome_left}
use Rattle.filing_flow.specs.Structure.{Flow, Push, Drop, HasField, PushNumber, FileInto, SetKept, SetCancelled, End}
use Rattle.filing_flow.specs.Structure.{action, sequence, block, leave, leave_if, size}
use Rattle.filing_flow.specs.Code.{places_in, Stands}
use Rattle.filing_flow.specs.Effect.{FallsThrough, Leaves, EndsRun, Stuck, no_calls, effect}
use Rattle.filing_flow.specs.Types.{HasType}
use Rattle.filing_flow.specs.Whole.{whole, nothing_done}

-- `exists` of two names: a jump to where false is pushed, if a field is missing
abbrev both_there : Flow
both_there =
    block (sequence
    (block (sequence (action (HasField (codes "to")))
    (sequence (leave_if false 0)
    (sequence (action (HasField (codes "cc")))
    (sequence (leave_if false 0) (sequence (action (Push true)) (leave 1)))))))
    (action (Push false)))

-- both names once
abbrev names : List (List ℕ)
names = codes "to" ∷ codes "cc" ∷ []

abbrev both_there_code : List Operation
both_there_code = Exists 0 ∷ JumpUnless 6 ∷ Exists 1 ∷ JumpUnless 6 ∷ PushTrue ∷ Jump 7 ∷ PushFalse ∷ []

both_there_stands : Stands (places_in names []) both_there_code both_there [] 0
both_there_stands = (
  (
    (Exists 0, refl, (0, refl, refl)),
    (refl, ((Exists 1, refl, (1, refl, refl)), (refl, ((PushTrue, refl, refl), refl)))),
  ),
  (PushFalse, refl, refl),
)

both_there_size : size both_there ≡ 7
both_there_size = refl

-- after other code, and with other texts
later_stands : Stands (places_in (codes "x" ∷ codes "cc" ∷ codes "to" ∷ []) []) (Keep ∷ Stop ∷ Exists 2 ∷ JumpUnless 8
    ∷ Exists 1 ∷ JumpUnless 8 ∷ PushTrue ∷ Jump 9 ∷ PushFalse ∷ []) both_there [] 2
later_stands = (
  (
    (Exists 2, refl, (2, refl, refl)),
    (refl, ((Exists 1, refl, (1, refl, refl)), (refl, ((PushTrue, refl, refl), refl)))),
  ),
  (PushFalse, refl, refl),
)

-- another text is named
not_another_text : Stands (places_in ([] ∷ (0 ∷ []) ∷ []) []) (Exists 1 ∷ []) (action (HasField [])) [] 0 → ⊥
not_another_text (o, at, (b, is, text)) =
    let found : Exists 1 ≡ Exists b = cc (at, is) in
    let one : b ≡ 1 = cc found in
    let texts : List (List ℕ) = [] ∷ (0 ∷ []) ∷ [] in
    let named : slice_get texts 1 ≡ Some [] = subst (λ (n : ℕ). slice_get texts n ≡ Some []) one text in
    absurd (cc named)

-- equal texts share a place
shared : Stands (places_in (codes "to" ∷ []) []) (Exists 0 ∷ Exists 0
    ∷ []) (sequence (action (HasField (codes "to"))) (action (HasField (codes "to")))) [] 0
shared = ((Exists 0, refl, (0, refl, refl)), (Exists 0, refl, (0, refl, refl)))

numbered : Stands (places_in [] (9 ∷ 7 ∷ [])) (Number 1 ∷ Number 0 ∷ Number 1
    ∷ []) (sequence (action (PushNumber 7)) (sequence (action (PushNumber 9)) (action (PushNumber 7)))) [] 0
numbered = ((Number 1, refl, (1, refl, refl)), ((Number 0, refl, (0, refl, refl)), (Number 1, refl, (1, refl, refl))))

-- the innermost block comes first
ends_around : Stands (places_in [] []) (Jump 5 ∷ JumpIf 6 ∷ JumpUnless 7
    ∷ []) (sequence (leave 0) (sequence (leave_if true 1) (leave_if false 2))) (5 ∷ 6 ∷ 7 ∷ []) 0
ends_around = (refl, (refl, refl))

-- a jump out of a whole program's code goes to its end
whole_code : Stands (places_in [] []) (Jump 2 ∷ Keep ∷ Stop ∷ []) (whole (sequence (leave 0) (action SetKept))) [] 0
whole_code = ((refl, (Keep, refl, refl)), (Stop, refl, refl))

-- a jump to the start of its block
not_to_its_start : Stands (places_in [] []) (Jump 0 ∷ Keep ∷ []) (block (sequence (leave 0) (action SetKept))) [] 0 → ⊥
not_to_its_start (jumps, keeps) = absurd (cc jumps)

-- EFFECTS

abbrev facts : Facts
facts = record {
  size = 10;
  fields = record { name = codes "TO"; value = codes "x" } ∷ record {
    name = codes "Cc";
    value = [];
  } ∷ [];
  is_open = bytes_eq (codes "a");
}

abbrev without_cc : Facts
without_cc = record facts { fields = record { name = codes "TO"; value = codes "x" } ∷ [] }

both_there_true : effect no_calls facts both_there nothing_done [] ≡ FallsThrough nothing_done (T true ∷ [])
both_there_true = refl

both_there_false : effect no_calls without_cc both_there nothing_done [] ≡ FallsThrough nothing_done (T false ∷ [])
both_there_false = refl

-- the truth value is popped whether the jump is taken or not
popped : effect no_calls facts (sequence (action (Push true)) (leave_if true 3)) nothing_done (T false ∷ []) ≡ Leaves 3 nothing_done (T false ∷ [])
popped = refl

popped_on : effect no_calls facts (sequence (action (Push true)) (leave_if false 3)) nothing_done (T false ∷ [])
    ≡ FallsThrough nothing_done (T false ∷ [])
popped_on = refl

-- two blocks are left, and what follows the inner one is skipped
left_two : effect no_calls facts (sequence (block (sequence (block (leave 1)) (action SetCancelled))) (action SetKept))
    nothing_done [] ≡ FallsThrough (record nothing_done { kept = true }) []
left_two = refl

left_three : effect no_calls facts (block (block (leave 2))) nothing_done [] ≡ Leaves 0 nothing_done []
left_three = refl

-- the end of the run is no end of a block
ended : effect no_calls facts (sequence (block (action End)) (action SetKept)) nothing_done [] ≡ EndsRun None nothing_done
ended = refl

not_open : effect no_calls facts (sequence (action (FileInto 0 (codes "b"))) (action SetKept)) nothing_done []
    ≡ EndsRun (Some ClassNotOpen) nothing_done
not_open = refl

no_operand : effect no_calls facts (sequence (action Drop) (action SetKept)) nothing_done [] ≡ Stuck
no_operand = refl

-- TYPES

both_there_typed : HasType both_there [] [] (Truth ∷ [])
both_there_typed =
    let none : 0 ≤ 32 = omega arith in
    let one : 1 ≤ 32 = omega arith in
    let less : 0 ≤ 31 = omega arith in (
      [],
      (
        Truth ∷ [],
        (refl, none, one),
        (
          [],
          (refl, less, refl),
          (Truth ∷ [], (refl, none, one), ([], (refl, less, refl), (Truth ∷ [], (refl, none, one), (one, refl)))),
        ),
      ),
      (refl, none, one),
    )

-- a truth value that is popped is not there for the next jump
not_twice : HasType (sequence (leave_if true 0) (leave_if true 0)) ([] ∷ []) (Truth ∷ []) [] → ⊥
not_twice h = let (m, (first_is, d, e), (second_is, g, k)) = h in absurd (cc (first_is, second_is))

-- RUNS

-- a run that has not ended has an outcome of no run
abbrev pub captured : Run → Outcome
captured (Over f s) = outcome_left f s
captured _ = record { classes = []; fault = Some TooHeavy }

-- `if exists ["to", "cc"] { fileinto "a"; }`
abbrev filed_if_both : Flow
filed_if_both = block (sequence both_there (sequence (leave_if false 0) (action (FileInto 0 (codes "a")))))

abbrev program : Program
program = record {
  budget = 100;
  texts = codes "to" ∷ codes "cc" ∷ codes "a" ∷ [];
  numbers = [];
  slots = 0;
  procedures =
      None;
  code = Exists 0 ∷ JumpUnless 6 ∷ Exists 1 ∷ JumpUnless 6 ∷ PushTrue ∷ Jump 7 ∷ PushFalse ∷ JumpUnless 9
      ∷ File 0 2 ∷ Stop ∷ [];
}

program_stands : Stands (places_in program.texts program.numbers) program.code (whole filed_if_both) [] 0
program_stands = (
  (
    (
      (
        (Exists 0, refl, (0, refl, refl)),
        (refl, ((Exists 1, refl, (1, refl, refl)), (refl, ((PushTrue, refl, refl), refl)))),
      ),
      (PushFalse, refl, refl),
    ),
    (refl, (File 0 2, refl, (2, refl, refl))),
  ),
  (Stop, refl, refl),
)

run_of_both : captured (after_steps program facts 9) ≡ record { classes = codes "a" ∷ []; fault = None }
run_of_both = refl

run_of_one : captured (after_steps program without_cc 7) ≡ record { classes = unfiled ∷ []; fault = None }
run_of_one = refl
