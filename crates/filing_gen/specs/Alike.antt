-- Runs of a script and of its code, side by side. How the marks of the code relate to the scripts that were entered is
-- left open.
use Rattle.std.specs.Prelude.{◌≡◌, ℕ, List, [], Bool, Some, None}
use Rattle.sieve_meaning.specs.Case.{Facts}
use Rattle.sieve_meaning.specs.Program.{Include}
use Rattle.sieve_meaning.specs.Meaning.{ScriptName, Filing, Ending, GoesOn, Returns, Stops, Faults, Included}
use Rattle.filing_flow.specs.Structure.{Flow}
use Rattle.filing_flow.specs.Effect.{Exit, FallsThrough, Leaves, EndsRun, CallEffects, effect}
use Rattle.filing_flow.specs.Effect as code

-- how marks relate to the scripts that were entered
abbrev pub Marking : Type 1
Marking = List ScriptName → List Bool → Type 0

-- the same was filed, kept and cancelled, and the marks are right
pub record AreAlike (marking : Marking) (f : Filing) (g : code.FlowState) : Type 0 where
  pub filed : g.filed ≡ f.filed
  pub kept : g.kept ≡ f.kept
  pub cancelled : g.cancelled ≡ f.cancelled
  pub marks : marking f.entered g.marks

-- the state of the run at an ending
abbrev pub filing_at : Ending → Filing
filing_at (GoesOn f) = f
filing_at (Returns f) = f
filing_at (Stops f) = f
filing_at (Faults fault f) = f

-- how code ends, by the ending of its script, where `return` leaves the block with this number
abbrev pub exit_of : ℕ → Ending → code.FlowState → Exit
exit_of n (GoesOn f) g = FallsThrough g []
exit_of n (Returns f) g = Leaves n g []
exit_of n (Stops f) g = EndsRun None g
exit_of n (Faults fault f) g = EndsRun (Some fault) g

-- The code ends as the script does.
pub record Alike (marking : Marking) (n : ℕ) (e : Ending) (x : Exit) : Type 0 where
  pub filing : code.FlowState
  pub related : AreAlike marking (filing_at e) filing
  pub exit : x ≡ exit_of n e filing

-- The code of each include does what the include does, where calls do this.
abbrev pub Agrees : CallEffects → Facts → Marking → (Include → Flow) → Included → Type 0
Agrees called c marking g h = (i : Include) (n : ℕ) (f : Filing) (s : code.FlowState) → AreAlike marking f s →
    Alike marking n (h i f) (effect called c (g i) s [])
