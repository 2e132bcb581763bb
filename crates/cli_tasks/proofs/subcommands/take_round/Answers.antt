use Rattle.std.proofs.Common.{◌∙◌, ap, subst, sym}
use Rattle.cli_history.specs.declared.author.Author.{Author}
use Rattle.cli_tasks.specs.Commands.{IsTold}
use Rattle.cli_tasks.proofs.RoundLaws.{round_at}
use Rattle.cli_tasks.proofs.subcommands.take_round.Goals as goal

pub returns : goal.returns
returns g c =
    let author = c.in_volume.result in
    let told = c.in_ok-author.ensures in
    let place = c.in_ok-place.place in
    let volume = c.in_ok-capturing.capturing.volume in
    let volumes = c.of.result.volumes in
    round_at g.A.Kept.Store g.A.Archives.is_at (IsTold c.args.told.now) c.args.archives.now c.of.result.archives.now c.as_str.result.now
    c.args.store.now volumes.folder.now volume volumes.last author c.args.job c.args.rounds place c.lend.result
    (subst (λ (a : Author). IsTold c.args.told.now a) (sym c.in_volume.ensures) (record { name = told.name; reason = told.reason }))
    (ap (λ (a : Author). a.volume) c.in_volume.ensures) c.in_ok-place.ensures c.of.ensures.archives c.of.ensures.folder c.of.ensures.last
    (c.as_str.ensures.value ∙ c.in_ok-capturing.ensures) c.lend.ensures
