use Rattle.std.proofs.Common.{◌∙◌, OnOk, subst}
use Rattle.cli_tasks.specs.Copies.{FillsWith}
use Rattle.cli_tasks.specs.Works.{IsDone}
use Rattle.cli_tasks.proofs.CopyLemmas.{done_before}
use Rattle.cli_tasks.proofs.copy.make_copy.Goals as goal

pub returns : goal.returns
returns g c =
    let fills = FillsWith g.S.Store g.A.Kept.Store c.args.kept.now.plan c.args.from.now c.copy_all-filled.new.from in
    let IsAt = g.A.Archives.is_at c.args.archives.now in
    done_before _ tt c.copy_all-filled.result c.finish.result c.finish.ensures.filled
    (subst (λ p. OnOk c.copy_all-filled.result (IsDone (IsAt p) fills)) (c.as_str-place.ensures.value ∙ c.in_ok-draft.ensures)
    c.copy_all-filled.ensures)
