use Rattle.std.proofs.Common.{List, subst, ℕ}
use Rattle.cli_tasks.specs.Histories.{NotesReasonsOver}
use Rattle.cli_tasks.specs.Works.{OverVolumes}
use Rattle.cli_tasks.proofs.DoneLemmas.{on_any}
use Rattle.cli_tasks.proofs.volume_beginnings.require_reasons.Goals as goal

pub returns : goal.returns
returns g c =
    let store = g.A.Kept.Store in
    let IsAt = g.A.Archives.is_at c.args.archives.now in
    let volumes = c.in_ok-volumes.volumes in
    let over : NotesReasonsOver store IsAt volumes.folder.now volumes.last = record { sound = c.in_ok-judge_histories.ensures } in
    on_any c.not_cut_off.result (
      volumes.last,
      c.in_ok-volumes.ensures.some,
      subst (λ (f : List ℕ). NotesReasonsOver store IsAt f volumes.last) c.in_ok-volumes.ensures.folder over,
    )
