use Rattle.std.proofs.Common.{◌≡◌, Bool, false, true}
use Rattle.std.proofs.lemmas.Result.{IfOk-weaker}
use Rattle.cli_choice.specs.declared.holds.Change.TheVariants.{End}
use Rattle.cli_tasks.specs.Volumes.{ShowsIn}
use Rattle.cli_tasks.specs.Works.{SomeVolume}
use Rattle.cli_tasks.proofs.volume_changes.may_be_held.Goals as goal

pub returns-in-End : goal.returns-in-End
returns-in-End g c =
    let Some = SomeVolume c.args.volumes.last
    (ShowsIn g.A.Kept.Store (g.A.Archives.is_at c.args.archives.now) c.args.volumes.folder.now c.args.name.now) in
    IfOk-weaker c.is_held_in_any.result (λ (is_held : Bool). is_held ≡ true → Some)
    (λ (is_held : Bool). is_held ≡ true → c.args.change ≡ End → c.args.is_any ≡ false → Some) (λ is_held told yes ends none. told yes)
    c.is_held_in_any.ensures
