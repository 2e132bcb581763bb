-- A line has one reading.
use Rattle.std.specs.Prelude.{◌≡◌, ℕ, ◌<◌, ◌^◌, List, Some, Result}
use Rattle.record_history.specs.Events.{Event}
use Rattle.record_history.specs.Lines.{line_of}
use Rattle.record_history.specs.Readable.{IsReadable}
use Rattle.record_history.specs.Reading.{Gives}
use Rattle.record_history.specs.declared.faults.LineFault.{LineFault}

-- THE LAW: no two events, and no two numbers, have one line
abbrev pub LinesHaveOneReading : Type 0
LinesHaveOneReading = (n m : ℕ) (e f : Event) → n < 2 ^ 64 → m < 2 ^ 64 → IsReadable e → IsReadable f → line_of n e ≡ line_of m f → (n ≡ m) × (e ≡ f)

-- where the octets are the line of an event, it is read, unless memory runs out
abbrev pub ReadsEach : {X : Type 0} → (X → ℕ × Event) → List ℕ → Result X LineFault → Type 0
ReadsEach view line result = (n : ℕ) (e : Event) → n < 2 ^ 64 → IsReadable e → line ≡ line_of n e → Gives view result (Some (n, e))
