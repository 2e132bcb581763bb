use Rattle.std.proofs.Common.{◌∙◌, inl, inr}
use Rattle.cli_files.proofs.CallLemmas.{one, so}
use Rattle.cli_files.proofs.removal.remove_files.Goals as goal

pub returns-in-Ok : goal.returns-in-Ok
returns-in-Ok g c = so g.F.FileSystem.made _ _ _ _ (c.remove_both.ensures.calls (c.as_str.ensures.value ∙ c.in-Ok.ensures)) (λ calls is. inl is)

pub returns-in-Err : goal.returns-in-Err
returns-in-Err g c =
    let made = g.F.FileSystem.made in
    so made _ _ _ _ (one made _ _ _ c.remove.ensures.made) (λ calls is. inr is)
