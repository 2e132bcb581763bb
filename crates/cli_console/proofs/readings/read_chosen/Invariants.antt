use Rattle.std.proofs.Common.{◌≡◌, ◌≤◌}
use Rattle.std.specs.Prelude.{IfSome}
use Rattle.record_archive.specs.Archive.{Archive}
use Rattle.record_choice.specs.Reads.{OnlyReads}
use Rattle.cli_console.specs.Finds.{TakesSome, chosen_ahead, chosen_in}
use Rattle.cli_console.proofs.readings.read_chosen.Given as goal

abbrev pub invariant-loop : goal.invariant-loop
invariant-loop g l = record {
  reads : OnlyReads g.R.Repository.clean g.R.Repository.stands l.fn.archive l.archive;
  same : l.walk.choice.now ≡ l.fn.choice;
  on : g.R.Repository.clean l.archive → (a : Archive) → g.R.Repository.stands l.fn.archive a → IfSome l.walk.from (λ n. l.counter ≤ n);
  taken : g.R.Repository.clean l.archive → (a : Archive) → g.R.Repository.stands l.fn.archive a
      → TakesSome g.K.Reader.takes l.fn.reader a (chosen_in l.fn.choice a) (chosen_ahead l.walk a) l.reader;
}
