use Rattle.std.proofs.Common.{subst}
use Rattle.sqlite.specs.Held.{Held}
use Rattle.record_copy.specs.Copies.{Copies}
use Rattle.cli_tasks.proofs.DoneLemmas.{on_any}
use Rattle.cli_tasks.proofs.copy.FillDraftFilling.fill.Goals as goal

pub returns-in-Ok : goal.returns-in-Ok
returns-in-Ok g c =
    let left = c.copy_archive.new.from in
    let filled = c.copy_archive.new.to in
    on_any c.take_over.result.1 (
      filled,
      subst (λ (to : Held g.row.T.Denot). Copies g.S.Store g.T.Store c.args.self.plan.now c.args.from.now left to filled)
          c.into_connection-to.ensures c.in-Ok.ensures.copies,
    )
