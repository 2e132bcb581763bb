-- A return, as the machine and as the table machine do it.
use Rattle.std.proofs.Common.{◌≡◌, [], map, ap, ◌∙◌}
use Rattle.filing_image.specs.Program.{Program}
use Rattle.filing_image.specs.declared.instruction.Operation.TheVariants.{Return}
use Rattle.sieve_meaning.specs.Case.{Facts}
use Rattle.filing_table.specs.Machine.{go_back, on_stack, act}
use Rattle.filing_machine.specs.declared.state.Progress.{Progress}
use Rattle.filing_machine.specs.declared.state.RunState.{RunState}
use Rattle.filing_machine.specs.StateViews.{entry, state, run_at}

pub came_back : (p : Program) (c : Facts) (old new : RunState) (progress : Progress) → old.stack ≡ []
    → go_back (state c old) old.calls ≡ run_at progress (state c new)
    → act p c Return (state c old) ≡ run_at progress (state c new)
came_back p c old new progress bare does = ap (on_stack p c Return (state c old)) (ap (map (entry c)) bare) ∙ does
