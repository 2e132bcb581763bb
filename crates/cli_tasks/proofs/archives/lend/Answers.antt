use Rattle.cli_tasks.proofs.DoneLemmas.{settled_as}
use Rattle.cli_tasks.proofs.archives.lend.Goals as goal

pub returns : goal.returns
returns g c =
    settled_as (g.A.Archives.is_at c.args.archives.now c.args.path.now)
    (λ before done after. g.W.Work.does g.row.A-Kept.Denot g.A.Kept.Store c.args.work before done after) c.in_ok-done.done c.settled.result
    c.in_ok-done.ensures c.settled.ensures.done
