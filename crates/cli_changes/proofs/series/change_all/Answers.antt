use Rattle.std.proofs.Common.{subst}
use Rattle.std.proofs.lemmas.Result.{on_ok_weaker}
use Rattle.record_archive.specs.Archive.{Archive}
use Rattle.cli_changes.specs.Series.{IsTriedOn}
use Rattle.cli_changes.proofs.SeriesLaws.{all_stop, on_err}
use Rattle.cli_changes.proofs.series.change_all.Goals as goal

pub returns-clause-done : goal.returns-clause-done
returns-clause-done g c =
    let stands = g.C.RecordChange.keeper.stands c.change_each.new.archive in
    let command = g.C.RecordChange.command c.args.change.now in
    on_ok_weaker c.judge_refused.result (λ well clean (a : Archive) s. (
      c.in_ok-changed.changed.is_any,
      subst (λ b. IsTriedOn stands command c.args.numbers.now a c.in_ok-changed.changed.is_any b) well
          (c.in_ok-changed.ensures.tried clean a s),
    )) c.judge_refused.ensures

pub returns-clause-stopped : goal.returns-clause-stopped
returns-clause-stopped g c =
    on_err c.judge_refused.result _ (λ clean (a : Archive) s.
    all_stop (g.C.RecordChange.keeper.stands c.change_each.new.archive) (g.C.RecordChange.command c.args.change.now) c.args.numbers.now a
    c.in_ok-changed.changed.is_any c.in_ok-changed.changed.is_refused (c.in_ok-changed.ensures.tried clean a s))

pub returns-in_err-changed-clause-stopped : goal.returns-in_err-changed-clause-stopped
returns-in_err-changed-clause-stopped g c = on_err c.from_residual.result _ c.in_err-changed.ensures.stopped
