use Rattle.std.proofs.Common.{◌∙◌, List, OnOk, subst, ℕ}
use Rattle.cli_volumes.specs.Names.{draft_of}
use Rattle.cli_tasks.specs.Copies.{CopiesIn, CopiesOver}
use Rattle.cli_tasks.specs.Works.{EachVolume, OverVolumes}
use Rattle.cli_tasks.proofs.DoneLemmas.{on_any}
use Rattle.cli_tasks.proofs.volume_copies.copy_volumes.Goals as goal

pub returns : goal.returns
returns g c =
    let volumes = c.in_ok-volumes.volumes in
    let Each = λ (from to : List ℕ). EachVolume volumes.last (CopiesIn g.A.Kept.Store (g.A.Archives.is_at c.args.archives.now) from to) in
    let each = subst (λ r. OnOk r (Each volumes.folder.now c.as_str-draft.result.now)) c.in_ok-copied.ensures c.copy_each-made.ensures in
    let made : OverVolumes (CopiesOver g.A.Kept.Store (g.A.Archives.is_at c.args.archives.now) c.args.folder.now c.args.new.now) = (
      volumes.last,
      c.in_ok-volumes.ensures.some,
      record {
        named = c.in_ok-judge_forgotten.ensures.named;
        each = subst (λ (from : List ℕ). Each from (draft_of c.args.new.now)) c.in_ok-volumes.ensures.folder
            (subst (λ (to : List ℕ). Each volumes.folder.now to) (c.as_str-draft.ensures.value ∙ c.in_ok-begun.ensures) each);
      },
    ) in
    on_any _ made
