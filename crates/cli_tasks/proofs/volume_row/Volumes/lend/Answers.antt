use Rattle.std.proofs.Common.{◌∙◌, subst}
use Rattle.record_store.specs.declared.store.Store.{Store}
use Rattle.cli_volumes.specs.Names.{path_of}
use Rattle.cli_tasks.specs.Works.{IsDone}
use Rattle.cli_tasks.proofs.DoneLemmas.{named_as, settled_as}
use Rattle.cli_tasks.proofs.volume_row.Volumes.lend.Goals as goal

pub returns : goal.returns
returns g c =
    let IsAt = g.A.Archives.is_at c.args.archives.now in
    let there = path_of c.args.self.now.folder.now c.args.volume in
    let does = g.W.Work.does g.row.A-Kept.Denot g.A.Kept.Store c.args.work in
    settled_as (IsAt there) does c.in_ok-done.done c.settled.result
    (subst (λ p. IsDone (IsAt p) (λ before after. does before c.in_ok-done.done after)) (c.as_str.ensures.value ∙ c.in_ok-path.ensures)
    c.in_ok-done.ensures)
    (named_as c.in_ok-done.done c.named_in.result c.settled.result c.named_in.ensures c.settled.ensures.done)
