use Rattle.std.proofs.Common.{◌∙◌, ap}
use Rattle.record_history.specs.Views.{event_view}
use Rattle.cli_history.specs.Findings.{stage_after}
use Rattle.cli_history.specs.declared.judging.Judgement.{Judgement}
use Rattle.cli_history.proofs.judging.Judgement.take.Goals as goal

pub returns : goal.returns
returns c =
    let rest = c.look_at_clock.ensures in
    let kept = c.meet.ensures.rest in
    let event = event_view c.in_ok-event.event in
    record {
      event = event;
      told = c.in_ok-event.ensures.told;
      stage = ap (λ (j : Judgement). j.findings.stage) rest ∙ c.take.ensures ∙ ap (λ (j : Judgement). stage_after j.findings.stage event) kept;
      met = ap (λ (j : Judgement). j.met) rest ∙ c.meet.ensures.met;
      watch = ap (λ (j : Judgement). j.watch) rest ∙ ap (λ (j : Judgement). j.watch) kept;
      head = ap (λ (j : Judgement). j.head) rest ∙ ap (λ (j : Judgement). j.head) kept;
    }
