use Rattle.std.proofs.Common.{◌∙◌, ap, subst, sym}
use Rattle.cli_history.specs.declared.author.Author.{Author}
use Rattle.cli_tasks.specs.Commands.{IsTold}
use Rattle.cli_tasks.proofs.ImportLaws.{imported_at}
use Rattle.cli_tasks.proofs.imports.import_round.Goals as goal

pub returns : goal.returns
returns g c =
    let author = c.in_volume.result in
    let told = c.in_ok-author.ensures in
    let capturing = c.in_ok-capturing.capturing in
    let place = c.in_ok-capturing.place in
    let placed = c.in_ok-capturing.ensures in
    imported_at g.A.Kept.Store (g.A.Archives.is_at c.args.archives.now) c.args.store.now c.as_str.result.now (IsTold c.args.told.now) capturing
    place author c.args.job c.args.from c.args.rounds c.in_ok-known.known c.in_ok-round.round placed
    (subst (λ (a : Author). IsTold c.args.told.now a) (sym c.in_volume.ensures) (record { name = told.name; reason = told.reason }))
    (ap (λ (a : Author). a.volume) c.in_volume.ensures) c.in_ok-known.ensures (c.as_str.ensures.value ∙ placed.is_in) c.in_ok-round.ensures
