use Rattle.cli_volumes.specs.Names.{path_of}
use Rattle.cli_tasks.proofs.DoneLemmas.{changed_as}
use Rattle.cli_tasks.proofs.volume_settings.change_in.Goals as goal

pub returns : goal.returns
returns g c =
    changed_as g.A.Kept.Store (g.A.Archives.is_at c.args.archives.now (path_of c.args.volumes.folder.now c.args.volume)) c.args.told.now
    c.in_ok-author.author c.args.change c.lend.result c.in_ok-author.ensures.told c.lend.ensures
