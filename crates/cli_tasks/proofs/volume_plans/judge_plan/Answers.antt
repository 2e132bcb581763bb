use Rattle.std.proofs.Common.{◌≡◌, rules, true}
use Rattle.std.proofs.lemmas.Bool.{not-false}
use Rattle.std.specs.Prelude.{◌↔◌, IsTrue}
use Rattle.sqlite.specs.Held.{Held}
use Rattle.cli_volumes.specs.Names.{path_of}
use Rattle.record_store.specs.declared.store.Store.{Store}
use Rattle.cli_tasks.proofs.DoneLemmas.{done_weaker}
use Rattle.cli_tasks.proofs.volume_plans.judge_plan.Goals as goal

pub returns : goal.returns
returns g c =
    let IsAt = g.A.Archives.is_at c.args.archives.now in
    let yes : c.in_ok-is_same.is_same ≡ true = search (rules, not-false) in
    done_weaker (IsAt (path_of c.args.volumes.folder.now c.args.volume))
    (λ (before : Store g.row.A-Kept.Denot) (after : Held g.row.A-Kept.Denot).
    IsTrue c.in_ok-is_same.is_same ↔ (before.plan ≡ c.args.plan.now))
    (λ (before : Store g.row.A-Kept.Denot) (after : Held g.row.A-Kept.Denot). before.plan ≡ c.args.plan.now)
    (λ before after seen. seen.0 yes) c.in_ok-is_same.ensures
