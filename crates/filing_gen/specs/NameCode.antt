-- The code that a test has for the field names after its first.
use Rattle.std.specs.Prelude.{◌≡◌, ℕ, List, false}
use Rattle.filing_flow.specs.Structure.{ValuesOf, JoinTwo, HasField, Flow, action, sequence, leave_if}
use Rattle.filing_flow.specs.Code.{end_at}
use Rattle.filing_gen.specs.BlockCode.{names_flow, values_flow}
use Rattle.filing_gen.specs.Adds.{Emits}
use Rattle.filing_gen.specs.Ends.{no_place}
use Rattle.filing_gen.specs.declared.emit_tests.NameCode.{NameCode}
use Rattle.filing_gen.specs.declared.emit_tests.NameCode.TheVariants.{Exists, Values}
use Rattle.filing_gen.specs.declared.output.Output.{Output}

abbrev pub name_flow : NameCode → List ℕ → Flow
name_flow Exists n = sequence (action (HasField n)) (leave_if false 0)
name_flow Values n = sequence (action (ValuesOf n)) (action JoinTwo)

abbrev pub each_flow : NameCode → List (List ℕ) → Flow
each_flow Exists ns = names_flow ns
each_flow Values ns = values_flow ns

-- The blocks around the code: for `Exists` the end of the innermost one is not known yet.
abbrev pub IsWithin : NameCode → (ends : List ℕ) → Type 0
IsWithin Exists ends = end_at ends 0 ≡ no_place
IsWithin Values ends = Unit {0}

-- The operations of the code were added, within such blocks.
abbrev pub EmitsWithin : NameCode → (old new : Output) → Flow → Type 0
EmitsWithin code old new a = (ends : List ℕ) → IsWithin code ends → Emits old new a ends
