use Rattle.std.proofs.Common.{◌≡◌, ◌+◌, ◌-◌, ℕ, arith, refl, subst, suc}
use Rattle.cli_tasks.specs.Captured.{KnowsVolumes}
use Rattle.cli_tasks.proofs.imports.know_volumes.Goals as goal

pub loop-done-init : goal.loop-done-init
loop-done-init g c = refl

pub loop-done-preserved : goal.loop-done-preserved
loop-done-preserved g c =
    let done = c.loop-done.done in
    let more : suc done ≡ done + 1 = omega arith in
    subst (λ (n : ℕ). KnowsVolumes g.A.Kept.Store (g.A.Archives.is_at c.args.archives.now) c.args.folder.now c.args.officer.now c.args.from n
    c.args.rounds c.know.new.self) more
    (c.loop-done.rounds, c.loop-done.invariant, (c.in_ok-known.known, c.in_ok-known.ensures, c.in_ok-know.ensures))

pub returns : goal.returns
returns g c =
    let all : c.loop-done.done ≡ c.args.to - c.args.from = omega (arith, c.saturating_sub-count.ensures) in
    subst (λ (n : ℕ). KnowsVolumes g.A.Kept.Store (g.A.Archives.is_at c.args.archives.now) c.args.folder.now c.args.officer.now c.args.from n
    c.args.rounds c.loop-done.rounds) all c.loop-done.invariant
