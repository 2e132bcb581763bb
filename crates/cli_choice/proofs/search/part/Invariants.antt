use Rattle.std.proofs.Common.{◌≡◌, ◌++◌, map, filter}
use Rattle.record_archive.specs.Archive.{Archive}
use Rattle.record_choice.specs.Reads.{OnlyReads}
use Rattle.record_choice.specs.Entries.{entry_view}
use Rattle.record_choice.specs.Walks.{shows_answer}
use Rattle.cli_choice.specs.Questions.{is_found, is_missed}
use Rattle.cli_choice.specs.Headers.{texts_view, texts_found}
use Rattle.cli_choice.proofs.search.part.Given as goal

abbrev pub invariant-loop-entry : goal.invariant-loop-entry
invariant-loop-entry g l = record {
  reads : OnlyReads g.R.Repository.clean g.R.Repository.stands l.fn.records l.records;
  found :
      g.R.Repository.clean l.records → (a : Archive) → g.R.Repository.stands l.fn.records a
      → map entry_view l.parts.found.items ++ filter (shows_answer a (is_found l.questions)) (map entry_view l.entry-iterator.rest.items)
      ≡ filter (shows_answer a (is_found l.questions)) (map entry_view l.fn.entries.items);
  unread :
      g.R.Repository.clean l.records → (a : Archive) → g.R.Repository.stands l.fn.records a
      → map entry_view l.parts.unread.items ++ filter (shows_answer a (is_missed l.questions)) (map entry_view l.entry-iterator.rest.items)
      ≡ filter (shows_answer a (is_missed l.questions)) (map entry_view l.fn.entries.items);
  headers :
      g.R.Repository.clean l.records → (a : Archive) → g.R.Repository.stands l.fn.records a
      → map texts_view l.parts.headers.items ≡ texts_found a l.beside (map entry_view l.parts.found.items);
}
