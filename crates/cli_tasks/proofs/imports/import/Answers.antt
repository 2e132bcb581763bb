use Rattle.std.proofs.Common.{◌≡◌, ◌+◌, ◌<◌, arith, refl, subst, suc, ℕ}
use Rattle.cli_changes.specs.declared.import.MailImport.{MailImport}
use Rattle.cli_changes.specs.declared.import_rounds.ImportRounds.{ImportRounds}
use Rattle.cli_changes.specs.declared.rounds.Round.{Round}
use Rattle.cli_tasks.specs.Commands.{IsTold}
use Rattle.cli_tasks.specs.Imports.{ImportsRound}
use Rattle.cli_tasks.specs.Rounds.{GoesThrough}
use Rattle.cli_tasks.proofs.imports.import.Goals as goal

pub loop-round-init : goal.loop-round-init
loop-round-init g c = (refl, refl)

pub loop-round-preserved : goal.loop-round-preserved
loop-round-preserved g c =
    let Makes = ImportsRound g.A.Kept.Store (g.A.Archives.is_at c.args.archives.now) c.args.store.now (IsTold c.args.told.now) in
    let round = c.loop-round.round in
    let rest = c.in-NextVolume.rest in
    let so_far = c.in-NextVolume.so_far in
    let more : suc round ≡ round + 1 = omega arith in
    subst (λ (n : ℕ). GoesThrough Makes n c.in_ok-job.job c.none-rounds.result rest so_far) more (
      c.loop-round.job,
      c.loop-round.rounds,
      c.loop-round.invariant,
      subst (λ (r : Round MailImport ImportRounds). Makes c.loop-round.job c.loop-round.rounds r) c.in-NextVolume.is c.in_ok-made.ensures,
    )

pub returns-in-Done : goal.returns-in-Done
returns-in-Done g c =
    let Makes = ImportsRound g.A.Kept.Store (g.A.Archives.is_at c.args.archives.now) c.args.store.now (IsTold c.args.told.now) in
    record {
      job = c.in_ok-job.job;
      none = c.none-rounds.result;
      is_none = c.none-rounds.ensures;
      rounds = record {
        count = c.loop-round.round;
        rest = c.loop-round.job;
        so_far = c.loop-round.rounds;
        before = c.loop-round.invariant;
        last = λ less.
            subst (λ (r : Round MailImport ImportRounds). Makes c.loop-round.job c.loop-round.rounds r) c.in-Done.is c.in_ok-made.ensures;
      };
    }

pub returns : goal.returns
returns g c = record {
  job = c.in_ok-job.job;
  none = c.none-rounds.result;
  is_none = c.none-rounds.ensures;
  rounds = record {
    count = c.loop-round.round;
    rest = c.loop-round.job;
    so_far = c.loop-round.rounds;
    before = c.loop-round.invariant;
    last = λ less.
        let under : c.loop-round.round < 18446744073709551615 = less in
        let no : ⊥ = omega (arith, under) in absurd no;
  };
}
