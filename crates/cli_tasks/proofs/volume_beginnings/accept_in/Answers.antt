use Rattle.std.proofs.Common.{ℕ, List, subst, sym}
use Rattle.std.specs.Prelude.{is_some}
use Rattle.sqlite.specs.Held.{Held}
use Rattle.record_store.specs.declared.store.Store.{Store}
use Rattle.cli_history.specs.declared.author.Author.{Author}
use Rattle.cli_volumes.specs.Names.{path_of}
use Rattle.cli_tasks.specs.Commands.{IsTold}
use Rattle.cli_tasks.specs.Histories.{AcceptsWhereFound}
use Rattle.cli_tasks.proofs.DoneLemmas.{done_weaker}
use Rattle.cli_tasks.proofs.volume_beginnings.accept_in.Goals as goal

pub returns : goal.returns
returns g c =
    let store = g.A.Kept.Store in
    let author = c.in_ok-author.author in
    let is_new = c.is_some.result in
    let path = path_of c.args.volumes.folder.now c.args.volume in
    done_weaker (g.A.Archives.is_at c.args.archives.now path)
    (λ (before : Store g.row.A-Kept.Denot) (after : Held g.row.A-Kept.Denot).
    AcceptsWhereFound store author (is_some c.in_ok-accepted.accepted) before after)
    (λ (before : Store g.row.A-Kept.Denot) (after : Held g.row.A-Kept.Denot). (a : Author) × IsTold c.args.told.now a
    × AcceptsWhereFound store a is_new before after)
    (λ before after made.
    (author, c.in_ok-author.ensures.told, subst (λ b. AcceptsWhereFound store author b before after) (sym c.is_some.ensures) made))
    c.in_ok-accepted.ensures
