use Rattle.std.proofs.Common.{◌==◌, ◌∙◌, List, ap, length, subst, sym, ℕ}
use Rattle.std.proofs.lemmas.Result.{on_ok_weaker}
use Rattle.cli_tasks.specs.Releases.{EndsIn}
use Rattle.cli_tasks.proofs.ReleaseLaws.{none_in}
use Rattle.cli_tasks.proofs.volume_changes.release_any_in.Goals as goal

pub returns-then-is_empty : goal.returns-then-is_empty
returns-then-is_empty g c = λ some.
    none_in (length c.args.listed.now.numbers.items == 0)
    (ap (λ (ns : List ℕ). length ns == 0) (sym c.as_slice-numbers.ensures.value) ∙ sym c.is_empty.ensures ∙ c.if-is_empty.true) some

pub returns : goal.returns
returns g c =
    on_ok_weaker c.release_in.result (λ ended some.
    subst (λ (ns : List ℕ). EndsIn g.A.Kept.Store (g.A.Archives.is_at c.args.archives.now) c.args.volumes.folder.now c.args.told.now
    c.args.name.now c.args.listed.now.volume ns) c.as_slice-numbers.ensures.value ended) c.release_in.ensures
