use Rattle.std.proofs.Common.{List, subst, sym, ℕ}
use Rattle.std.proofs.lemmas.Result.{on_ok_weaker}
use Rattle.command_lines.specs.declared.archives.Command.{Command}
use Rattle.cli_tasks.specs.Releases.{ReleasesOver}
use Rattle.cli_tasks.specs.Disposals.{DisposesOver}
use Rattle.cli_tasks.specs.Twins.{ListsTwinsToOutput}
use Rattle.cli_tasks.specs.Volumes.{DoesOver, DoesWithEach, DoesWithHistories}
use Rattle.cli_tasks.proofs.volumes.execute_over.Goals as goal

pub returns-in-Chosen : goal.returns-in-Chosen
returns-in-Chosen g c =
    let store = g.A.Kept.Store in
    let IsAt = g.A.Archives.is_at c.args.archives.now in
    let folder = c.args.folder.now in
    let told = c.args.told.now in
    let volumes = c.in_ok-volumes.volumes in
    on_ok_weaker c.on_volumes.result (λ done.
    subst (λ (k : Command). DoesOver store IsAt folder told k) (sym c.in-Chosen.is) (
      volumes.last,
      c.in_ok-volumes.ensures.some,
      subst (λ (f : List ℕ). DoesWithEach store IsAt f told c.in-Chosen.typed volumes.last c.in-Chosen.task)
          c.in_ok-volumes.ensures.folder done,
    )) c.on_volumes.ensures

pub returns-in-ReleaseAll : goal.returns-in-ReleaseAll
returns-in-ReleaseAll g c =
    let store = g.A.Kept.Store in
    let IsAt = g.A.Archives.is_at c.args.archives.now in
    let folder = c.args.folder.now in
    let told = c.args.told.now in
    let volumes = c.in_ok-volumes.volumes in
    on_ok_weaker c.release_all.result (λ done.
    subst (λ (k : Command). DoesOver store IsAt folder told k) (sym c.in-ReleaseAll.is) (
      volumes.last,
      c.in_ok-volumes.ensures.some,
      subst (λ (f : List ℕ). ReleasesOver store IsAt f told c.in-ReleaseAll.name.now volumes.last) c.in_ok-volumes.ensures.folder done,
    )) c.release_all.ensures

pub returns-in-Dispose : goal.returns-in-Dispose
returns-in-Dispose g c =
    let store = g.A.Kept.Store in
    let IsAt = g.A.Archives.is_at c.args.archives.now in
    let folder = c.args.folder.now in
    let told = c.args.told.now in
    let volumes = c.in_ok-volumes.volumes in
    on_ok_weaker c.dispose.result (λ done.
    subst (λ (k : Command). DoesOver store IsAt folder told k) (sym c.in-Dispose.is) (
      volumes.last,
      c.in_ok-volumes.ensures.some,
      subst (λ (f : List ℕ). DisposesOver store IsAt f told c.in-Dispose.asked volumes.last) c.in_ok-volumes.ensures.folder done,
    )) c.dispose.ensures

pub returns-in-ReplacePlan : goal.returns-in-ReplacePlan
returns-in-ReplacePlan g c =
    let IsAt = g.A.Archives.is_at c.args.archives.now in
    on_ok_weaker c.set_plan.result
    (λ done. subst (λ (k : Command). DoesOver g.A.Kept.Store IsAt c.args.folder.now c.args.told.now k) (sym c.in-ReplacePlan.is) done)
    c.set_plan.ensures

pub returns-in-SetTitles : goal.returns-in-SetTitles
returns-in-SetTitles g c =
    let IsAt = g.A.Archives.is_at c.args.archives.now in
    on_ok_weaker c.set_titles.result
    (λ done. subst (λ (k : Command). DoesOver g.A.Kept.Store IsAt c.args.folder.now c.args.told.now k) (sym c.in-SetTitles.is) done)
    c.set_titles.ensures

pub returns-in-History : goal.returns-in-History
returns-in-History g c =
    let store = g.A.Kept.Store in
    let IsAt = g.A.Archives.is_at c.args.archives.now in
    let told = c.args.told.now in
    on_ok_weaker c.history.result (λ done.
    subst (λ (k : Command). DoesOver store IsAt c.args.folder.now told k) (sym c.in-History.is)
    (subst (λ (f : List ℕ). DoesWithHistories store IsAt f told c.in-History.task) c.in_ok-volumes.ensures.folder done)) c.history.ensures

pub returns-in-Twice : goal.returns-in-Twice
returns-in-Twice g c =
    let store = g.A.Kept.Store in
    let IsAt = g.A.Archives.is_at c.args.archives.now in
    let told = c.args.told.now in
    let volumes = c.in_ok-volumes.volumes in
    on_ok_weaker c.write_twice.result (λ done.
    subst (λ (k : Command). DoesOver store IsAt c.args.folder.now told k) (sym c.in-Twice.is) (
      volumes.last,
      c.in_ok-volumes.ensures.some,
      subst (λ (f : List ℕ). ListsTwinsToOutput store IsAt f c.in-Twice.listing volumes.last) c.in_ok-volumes.ensures.folder done,
    )) c.write_twice.ensures

pub returns-in-Copy : goal.returns-in-Copy
returns-in-Copy g c =
    let IsAt = g.A.Archives.is_at c.args.archives.now in
    on_ok_weaker c.copy_volumes.result
    (λ done. subst (λ (k : Command). DoesOver g.A.Kept.Store IsAt c.args.folder.now c.args.told.now k) (sym c.in-Copy.is) done)
    c.copy_volumes.ensures
