use Rattle.std.proofs.Common.{◌∷◌, []}
use Rattle.std.proofs.lemmas.Result.{on_ok_weaker}
use Rattle.record_archive.specs.Archive.{Archive}
use Rattle.cli_changes.specs.Moves.{AddsMovers}
use Rattle.cli_changes.proofs.refile.MoversReader.take.Goals as goal

pub returns-clause-taken : goal.returns-clause-taken
returns-clause-taken g c =
    let adds = AddsMovers c.args.self.now (c.args.entry.now ∷ []) c.look_at.new.self in
    on_ok_weaker c.look_at.result (λ (added : adds) clean (a : Archive) s told. added) c.look_at.ensures
