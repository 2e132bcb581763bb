use Rattle.std.proofs.Common.{◌≡◌, ◌∙◌, Option, subst}
use Rattle.std.specs.Prelude.{IfSome}
use Rattle.jiff_core.specs.declared.civil.date.Date.{Date}
use Rattle.cli_tasks.proofs.DoneLemmas.{on_any}
use Rattle.cli_tasks.proofs.volume_disposals.dispose.Goals as goal

pub dispose_in_each-done-requires : goal.dispose_in_each-done-requires
dispose_in_each-done-requires g c = c.in_ok-judge_before.ensures

pub returns : goal.returns
returns g c =
    let typed = c.in_ok-typed.ensures in
    let day = c.in_ok-day.day in
    on_any c.tell_none.result (record {
      typed = c.in_ok-typed.typed;
      is_typed = typed;
      none = c.in_ok-judge_disposed.ensures.none;
      within = c.in_ok-judge_disposed.ensures.within;
      day = day;
      by = subst (λ (o : Option Date). IfSome o (λ t. day ≡ t)) typed.day c.in_ok-day.ensures.typed;
      judged = λ yes. c.in_ok-judge_before.ensures (typed.destroys ∙ yes);
      each = c.in_ok-done.ensures;
    })
