use Rattle.std.proofs.Common.{◌∙◌, OnOk, subst}
use Rattle.cli_tasks.specs.Copies.{CopiesTo}
use Rattle.cli_tasks.specs.Works.{InVolume}
use Rattle.cli_tasks.proofs.volume_copies.copy_volume.Goals as goal

pub returns : goal.returns
returns g c =
    let IsAt = g.A.Archives.is_at c.args.archives.now in
    let copies = CopiesTo g.A.Kept.Store g.A.Kept.Store IsAt in
    subst (λ p. OnOk c.lend.result (InVolume IsAt c.args.volumes.folder.now c.args.volume (copies p)))
    (c.as_str-new.ensures.value ∙ c.in_ok-to.ensures) c.lend.ensures
