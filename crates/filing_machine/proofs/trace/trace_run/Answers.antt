use Rattle.std.proofs.Common.{◌≡◌, ◌+◌, ◌∷◌, ◌++◌, [], ℕ, true, IfSome, is_some, length, slice_get, subst, sym, ap, ◌∙◌, arith, length-append}
use Rattle.filing_image.specs.Program.{Program}
use Rattle.filing_machine.specs.StateViews.{state}
use Rattle.filing_machine.specs.declared.trace.Step.{Step}
use Rattle.filing_machine.specs.StepRecords.{finds, is_found_by, IsStepRecord}
use Rattle.filing_machine.proofs.TraceLemmas.{none_told, one_more, step_is_told}
use Rattle.filing_machine.proofs.trace.trace_run.Goals as goal

pub loop-machine-init : goal.loop-machine-init
loop-machine-init g c = record {
  stands = c.in_ok-machine.ensures.stands (g.C.Case.facts c.args.case.now);
  budget = omega (arith, c.in_ok-machine.ensures.fresh);
  whole = grind (arith, c.in_ok-machine.ensures.fresh);
  told = none_told (IsStepRecord c.args.program.now (g.C.Case.facts c.args.case.now)) _ c.new-steps.ensures.items;
}

pub loop-machine-preserved : goal.loop-machine-preserved
loop-machine-preserved g c =
    let p = c.args.program.now in
    let facts = g.C.Case.facts c.args.case.now in
    let before = c.loop-machine.machine in
    let steps = c.loop-machine.steps.items in
    let step : Step = record { place = c.place-place.result; top = c.top-top.result; matched = c.matched_field-matched.result } in
    let found : is_some c.matched_field-matched.result ≡ finds p (state facts before.at) =
    c.matched_field-matched.ensures.found ∙ ap (λ (q : Program). finds q (state facts before.at)) c.image.ensures.is in
    let Q : Program → Type 0 = λ q. IfSome c.matched_field-matched.result (λ f. is_found_by q facts before.at.place f ≡ true) in
    let matches : Q p = subst Q c.image.ensures.is c.matched_field-matched.ensures.matches in
    let told : IsStepRecord p facts before.steps step =
    step_is_told p facts before c.step.new.self step c.loop-machine.invariant.stands c.in_ok-step.ensures.stands
    c.in_ok-step.ensures.count c.place-place.ensures (c.top-top.ensures facts) found matches in
    let P : ℕ → Type 0 = λ n. IsStepRecord p facts n step in
    let longer : length (steps ++ step ∷ []) ≡ length steps + 1 = length-append steps (step ∷ []) in
    record {
      stands = c.in_ok-step.ensures.stands;
      budget = c.in_ok-step.ensures.budget;
      whole = omega (arith, ap length c.in_ok-push.ensures.items, longer, c.loop-machine.invariant.whole, c.in_ok-step.ensures.count);
      told = λ k s e.
          one_more (IsStepRecord p facts) steps step c.loop-machine.invariant.told
          (subst P (sym c.loop-machine.invariant.whole) told) k s (ap (λ xs.
          slice_get xs k) (sym c.in_ok-push.ensures.items) ∙ e);
    }
