use Rattle.std.proofs.Common.{◌≡◌, ◌+◌, Ok, arith, below_more, refl, subst, ℕ}
use Rattle.cli_tasks.specs.Disposals.{DisposesIn, WhereAsked}
use Rattle.cli_tasks.specs.Works.{EachVolume}
use Rattle.cli_tasks.proofs.DisposalLaws.{ended_well, none_refused}
use Rattle.cli_tasks.proofs.volume_disposals.dispose_in_each.Goals as goal

pub loop-below-init : goal.loop-below-init
loop-below-init g c = λ none k less. absurd (omega arith)

pub loop-below-preserved : goal.loop-below-preserved
loop-below-preserved g c = λ none.
    let Disposes = DisposesIn g.A.Kept.Store (g.A.Archives.is_at c.args.archives.now) c.args.volumes.folder.now c.args.told.now c.args.day in
    let both = none_refused c.loop-below.joined.is_refused c.add.new.self.is_refused c.dispose_typed-disposed.result c.add-ended.result (Ok tt)
    c.add.ensures.refused c.add-ended.ensures.ends c.in_ok-add.ensures.goes_on refl c.dispose_typed-disposed.ensures none in
    below_more (λ k. WhereAsked c.args.typed.now (k + 1) (Disposes (k + 1))) c.loop-below.below (c.loop-below.invariant both.0) both.1

pub returns : goal.returns
returns g c =
    let Disposes = DisposesIn g.A.Kept.Store (g.A.Archives.is_at c.args.archives.now) c.args.volumes.folder.now c.args.told.now c.args.day in
    let all : c.loop-below.below ≡ c.args.volumes.last = omega arith in
    ended_well c.end.result c.loop-below.joined.is_refused c.end.ensures.well
    (λ none. subst (λ (n : ℕ). EachVolume n (λ v. WhereAsked c.args.typed.now v (Disposes v))) all (c.loop-below.invariant none))
