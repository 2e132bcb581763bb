use Rattle.std.proofs.Common.{inl, inr}
use Rattle.cli_files.proofs.CallLemmas.{none, on_err, so}
use Rattle.cli_files.proofs.archives.open_archive.Goals as goal

pub returns-in_err-look_at-clause-tries : goal.returns-in_err-look_at-clause-tries
returns-in_err-look_at-clause-tries g c =
    let made = g.F.FileSystem.made in
    on_err c.from_residual.result _ (so made _ _ _ _ (none made _) (λ calls is. inl is))

pub returns-in-Err-clause-tries : goal.returns-in-Err-clause-tries
returns-in-Err-clause-tries g c = so g.F.FileSystem.made _ _ _ _ c.open_store.ensures.calls (λ calls is. inr is)
