-- A machine's state as a state of the table machine.
use Rattle.std.specs.Prelude.{◌<◌, ◌+◌, List, ◌∷◌, ◌++◌, map, All, Bool, true, false, length}
use Rattle.filing_image.specs.declared.instruction.Operation.{Operation}
use Rattle.filing_image.specs.declared.instruction.Operation.TheVariants.{Values, Join, File}
use Rattle.sieve_meaning.specs.Case.{Facts}
use Rattle.filing_table.specs.Machine.{Entry, T, L, N, State, Run, At, Over}
use Rattle.filing_machine.specs.declared.state.Item.{Item}
use Rattle.filing_machine.specs.declared.state.Item.TheVariants.{Truth, Fields, Count}
use Rattle.filing_machine.specs.declared.state.Progress.{Progress}
use Rattle.filing_machine.specs.declared.state.Progress.TheVariants.{Going, Ended}
use Rattle.filing_machine.specs.declared.state.RunState.{RunState}
use Rattle.mail_case.specs.Fields.{field_at}

-- an item of the stack as an entry: a list of fields becomes the list of their values
abbrev pub entry : Facts → Item → Entry
entry c (Truth b) = T b
entry c (Fields places) = L (map (λ place. (field_at c place).value) places)
entry c (Count n) = N n

abbrev pub state : Facts → RunState → State
state c s = record {
  place = s.place;
  stack = map (entry c) s.stack;
  filed = s.filed;
  kept = s.kept;
  cancelled = s.cancelled;
  marks = s.marks;
  calls = s.calls;
}

-- before an instruction, or at the end with or without a fault
abbrev pub run_at : Progress → State → Run
run_at Going s = At s
run_at (Ended fault) s = Over fault s

abbrev pub is_ended : Progress → Bool
is_ended Going = false
is_ended (Ended fault) = true

-- a list names only fields that the case has
abbrev pub InCase : Facts → Item → Type 0
InCase c (Truth b) = Unit {0}
InCase c (Fields places) = All (λ place. place < length c.fields) places
InCase c (Count n) = Unit {0}

-- The operation takes no memory.
abbrev pub IsModest : Operation → Type 0
IsModest (Values b) = ⊥
IsModest Join = ⊥
IsModest (File a b) = ⊥
IsModest _ = Unit {0}

-- the state after `Join`: one list in place of the two on the top
abbrev pub after_join : State → List Entry → State
after_join s (L ys ∷ L xs ∷ es) = record s { place = s.place + 1; stack = L (xs ++ ys) ∷ es }
after_join s _ = s
