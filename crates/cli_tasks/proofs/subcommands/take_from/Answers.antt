use Rattle.std.proofs.Common.{◌≡◌, ◌+◌, ◌<◌, arith, refl, subst, suc, ℕ}
use Rattle.cli_changes.specs.declared.intake.Intake.{Intake}
use Rattle.cli_changes.specs.declared.rounds.Round.{Round}
use Rattle.cli_changes.specs.declared.rounds.Rounds.{Rounds}
use Rattle.cli_tasks.specs.Commands.{IsTold}
use Rattle.cli_tasks.specs.Rounds.{GoesThrough, IntakesRound}
use Rattle.cli_tasks.proofs.subcommands.take_from.Goals as goal

pub loop-init : goal.loop-init
loop-init g c = (refl, refl)

pub loop-preserved : goal.loop-preserved
loop-preserved g c =
    let Makes = IntakesRound g.A.Kept.Store (g.A.Archives.is_at c.args.archives.now) c.args.store.now (IsTold c.args.told.now) in
    let rest = c.in-NextVolume.rest in
    let so_far = c.in-NextVolume.so_far in
    let more : suc c.loop.counter ≡ c.loop.counter + 1 = omega arith in
    subst (λ (n : ℕ). GoesThrough Makes n c.in_ok-job.job c.none-rounds.result rest so_far) more (
      c.loop.job,
      c.loop.rounds,
      c.loop.invariant,
      subst (λ (r : Round Intake Rounds). Makes c.loop.job c.loop.rounds r) c.in-NextVolume.is c.in_ok-take_round.ensures,
    )

pub returns-in-Done : goal.returns-in-Done
returns-in-Done g c =
    let Makes = IntakesRound g.A.Kept.Store (g.A.Archives.is_at c.args.archives.now) c.args.store.now (IsTold c.args.told.now) in
    record {
      job = c.in_ok-job.job;
      none = c.none-rounds.result;
      is_none = c.none-rounds.ensures;
      rounds = record {
        count = c.loop.counter;
        rest = c.loop.job;
        so_far = c.loop.rounds;
        before = c.loop.invariant;
        last = λ less. subst (λ (r : Round Intake Rounds). Makes c.loop.job c.loop.rounds r) c.in-Done.is c.in_ok-take_round.ensures;
      };
    }

pub returns : goal.returns
returns g c = record {
  job = c.in_ok-job.job;
  none = c.none-rounds.result;
  is_none = c.none-rounds.ensures;
  rounds = record {
    count = c.loop.counter;
    rest = c.loop.job;
    so_far = c.loop.rounds;
    before = c.loop.invariant;
    last = λ less.
        let under : c.loop.counter < 18446744073709551615 = less in
        let no : ⊥ = omega (arith, under) in absurd no;
  };
}
