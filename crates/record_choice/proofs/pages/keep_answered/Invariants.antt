use Rattle.std.proofs.Common.{◌≡◌, ◌++◌, map, filter}
use Rattle.record_archive.specs.Archive.{Archive}
use Rattle.record_choice.specs.Reads.{OnlyReads}
use Rattle.record_choice.specs.Entries.{entry_view}
use Rattle.record_choice.specs.Walks.{shows_answer}
use Rattle.record_choice.proofs.pages.keep_answered.Given as goal

abbrev pub invariant-loop-entry : goal.invariant-loop-entry
invariant-loop-entry g l = record {
  reads : OnlyReads g.R.Repository.clean g.R.Repository.stands l.fn.records l.records;
  kept :
      g.R.Repository.clean l.records → (a : Archive) → g.R.Repository.stands l.fn.records a
      → map entry_view l.kept.items ++ filter (shows_answer a (g.J.Judge.asks l.judge)) (map entry_view l.entry-iterator.rest.items)
      ≡ filter (shows_answer a (g.J.Judge.asks l.judge)) (map entry_view l.fn.entries.items);
}
