use Rattle.std.proofs.Common.{[], ◌∷◌, ap}
use Rattle.record_places.specs.Calls.{remove}
use Rattle.cli_files.proofs.CallLemmas.{after, one}
use Rattle.cli_files.proofs.removal.remove_both.Goals as goal

pub returns-clause-calls : goal.returns-clause-calls
returns-clause-calls g c same =
    let made = g.F.FileSystem.made in
    after made _ _ _ _ _ _ (one made _ _ _ c.remove.ensures.made) (one made _ _ _ c.remove-2.ensures.made)
    (ap (λ log. remove log ∷ remove c.args.path.now ∷ []) same)

pub returns-clause-kept : goal.returns-clause-kept
returns-clause-kept g c name had = c.remove-2.ensures.kept name (c.remove.ensures.kept name had)
