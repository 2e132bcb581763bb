use Rattle.std.proofs.Common.{◌≡◌, ◌∙◌, ◌+◌, ◌-◌, ◌<◌, arith, subst, sym}
use Rattle.cli_tasks.specs.Days.{ShowsNone}
use Rattle.cli_tasks.proofs.BackLaws.{EmptyAbove, found_back, none_back}
use Rattle.cli_tasks.proofs.DownLaws.{more_from_last, none_from_last}
use Rattle.cli_tasks.proofs.volume_days.Earlier.looked_back.Goals as goal

pub loop-later-init : goal.loop-later-init
loop-later-init g c =
    let volumes = c.args.self.now.volumes in
    none_from_last (ShowsNone g.A.Kept.Store (g.A.Archives.is_at c.args.self.now.archives.now) volumes.folder.now c.args.timing) volumes.last

pub loop-later-preserved : goal.loop-later-preserved
loop-later-preserved g c =
    let volumes = c.args.self.now.volumes in
    let later = c.loop-later.later in
    let less : later < volumes.last = c.loop-later-test.true in
    let at : (volumes.last - later) + later ≡ volumes.last = omega (arith, less) in
    more_from_last (ShowsNone g.A.Kept.Store (g.A.Archives.is_at c.args.self.now.archives.now) volumes.folder.now c.args.timing)
    volumes.last later (volumes.last - later) at
    (c.in_ok-looked.looked, sym c.needs_day.ensures ∙ c.if-not-needs_day.false, c.in_ok-looked.ensures) c.loop-later.invariant

pub returns-then-not-needs_day : goal.returns-then-not-needs_day
returns-then-not-needs_day g c =
    let volumes = c.args.self.now.volumes in
    let later = c.loop-later.later in
    let less : later < volumes.last = c.loop-later-test.true in
    let at : (volumes.last - later) + later ≡ volumes.last = omega (arith, less) in
    found_back g.A.Kept.Store (g.A.Archives.is_at c.args.self.now.archives.now) volumes.folder.now c.args.timing volumes.last later
    (volumes.last - later) c.in_ok-looked.looked at (omega (arith, less)) c.loop-later.invariant
    (sym c.needs_day.ensures ∙ c.if-not-needs_day.true) c.in_ok-looked.ensures

pub returns : goal.returns
returns g c =
    let volumes = c.args.self.now.volumes in
    let IsAt = g.A.Archives.is_at c.args.self.now.archives.now in
    let all : c.loop-later.later ≡ volumes.last = omega arith in
    none_back g.A.Kept.Store IsAt volumes.folder.now c.args.timing volumes.last
    (subst (EmptyAbove g.A.Kept.Store IsAt volumes.folder.now c.args.timing volumes.last) all c.loop-later.invariant)
