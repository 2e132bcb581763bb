use Rattle.std.proofs.Common.{◌≡◌, ◌≤◌}
use Rattle.std.specs.Prelude.{IfSome}
use Rattle.record_archive.specs.Archive.{Archive}
use Rattle.record_choice.specs.Reads.{OnlyReads}
use Rattle.cli_console.specs.Finds.{IsSameSearch, TakesSome, found_ahead, noted_at_end}
use Rattle.cli_console.proofs.search.Search.read.Given as goal

abbrev pub invariant-loop : goal.invariant-loop
invariant-loop g l = record {
  reads : OnlyReads g.R.Repository.clean g.R.Repository.stands l.fn.archive l.archive;
  same : IsSameSearch l.fn.self l.self;
  on : g.R.Repository.clean l.archive → (a : Archive) → g.R.Repository.stands l.fn.archive a → IfSome l.self.from (λ n. l.counter ≤ n);
  noted : g.R.Repository.clean l.archive → (a : Archive) → g.R.Repository.stands l.fn.archive a → noted_at_end l.self a ≡ noted_at_end l.fn.self a;
  taken : g.R.Repository.clean l.archive → (a : Archive) → g.R.Repository.stands l.fn.archive a
      → TakesSome g.K.Reader.takes l.fn.reader a (found_ahead l.fn.self a) (found_ahead l.self a) l.reader;
}
