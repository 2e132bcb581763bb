-- Small programs of procedures, whose places, effects and steps are known: each line computes.
use Rattle.std.proofs.Common.{◌≡◌, List, [], ◌∷◌, true, Some, None, refl}
use Rattle.filing_image.specs.declared.instruction.Operation.TheVariants.{Discard, Call, Return}
use Rattle.filing_image.specs.Program.{Program}
use Rattle.sieve_meaning.specs.declared.run_fault.RunFault.TheVariants.{RecursiveInclude}
use Rattle.sieve_meaning.specs.Case.{Facts}
use Rattle.filing_table.specs.Machine.{after_steps}
use Rattle.filing_flow.specs.Structure.{Flow, Push, SetKept, SetCancelled, End, Fail, CallTo, action, sequence, block, leave}
use Rattle.filing_flow.specs.Code.{places_in}
use Rattle.filing_flow.specs.Effect.{FallsThrough, EndsRun, Stuck, effect}
use Rattle.filing_flow.specs.Whole.{nothing_done}
use Rattle.filing_flow.specs.Procedures.{places_from, whole_size, ProceduresStand, called_by, steps_by, first_call}
use Rattle.filing_flow.proofs.Rows.{captured}

abbrev facts : Facts
facts = record { size = 10; fields = []; is_open = λ path. true }

-- the first calls the second, which discards
abbrev worked : List Flow
worked = action (CallTo 1) ∷ action SetCancelled ∷ []

worked_places : places_from 0 worked ≡ 0 ∷ 2 ∷ []
worked_places = refl

worked_size : whole_size worked ≡ 4
worked_size = refl

abbrev program : Program
program = record { budget = 4; texts = []; numbers = []; slots = 0; procedures = Some (0 ∷ 2 ∷ []); code = Call 1 ∷ Return ∷ Discard ∷ Return ∷ [] }

worked_stands : ProceduresStand (places_in [] []) program.code worked 0
worked_stands = ((Call 1, refl, refl), refl, ((Discard, refl, refl), refl, tt))

worked_effect : effect (called_by facts 0 worked) facts first_call nothing_done [] ≡ EndsRun None (record nothing_done { cancelled = true })
worked_effect = refl

-- two calls, and two returns
worked_steps : steps_by 0 worked 0 ≡ 4
worked_steps = refl

worked_run : captured (after_steps program facts 4) ≡ record { classes = []; fault = None }
worked_run = refl

-- each of two procedures calls the next one twice
abbrev doubled : List Flow
doubled = sequence (action (CallTo 1)) (action (CallTo 1)) ∷ sequence (action (CallTo 2)) (action (CallTo 2)) ∷ action SetKept ∷ []

doubled_steps : steps_by 0 doubled 0 ≡ 17
doubled_steps = refl

-- `stop` in a procedure ends the run, and `return` goes on after the call
stopped : effect (called_by facts 1 (action End ∷ [])) facts (sequence (action (CallTo 1)) (action SetKept))
    nothing_done [] ≡ EndsRun None nothing_done
stopped = refl

gone_on : effect (called_by facts 1 (sequence (leave 0) (action SetCancelled) ∷ [])) facts
    (block (sequence (action (CallTo 1)) (action SetKept))) nothing_done []
    ≡ FallsThrough (record nothing_done { kept = true }) []
gone_on = refl

failed : effect (called_by facts 1 (action (Fail RecursiveInclude) ∷ [])) facts (action (CallTo 1)) nothing_done []
    ≡ EndsRun (Some RecursiveInclude) nothing_done
failed = refl

-- no procedure calls itself, or one before it
calls_itself : effect (called_by facts 0 (action (CallTo 0) ∷ [])) facts first_call nothing_done [] ≡ Stuck
calls_itself = refl

calls_back : effect (called_by facts 0 (action (CallTo 1) ∷ action (CallTo 0) ∷ [])) facts first_call nothing_done [] ≡ Stuck
calls_back = refl

not_there : effect (called_by facts 0 (action (CallTo 2) ∷ action SetKept ∷ [])) facts first_call nothing_done [] ≡ Stuck
not_there = refl

-- the stack must be empty at a call and at a return
call_with_an_entry : effect (called_by facts 1 (action SetKept ∷ [])) facts
    (sequence (action (Push true)) (action (CallTo 1))) nothing_done [] ≡ Stuck
call_with_an_entry = refl

return_with_an_entry : effect (called_by facts 1 (action (Push true) ∷ [])) facts (action (CallTo 1)) nothing_done [] ≡ Stuck
return_with_an_entry = refl
