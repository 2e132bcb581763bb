use Rattle.std.proofs.Common.{◌∙◌, ◌++◌, ap, map}
use Rattle.std.proofs.lemmas.List.{map-append}
use Rattle.std.proofs.lemmas.Result.{on_ok_weaker}
use Rattle.record_archive.specs.Archive.{Archive}
use Rattle.record_choice.specs.Entries.{entry_view}
use Rattle.cli_console.specs.Finds.{IsAtEnd, TakesThese, found_ahead}
use Rattle.cli_console.proofs.search.Search.read_on.Goals as goal

pub returns-clause-taken : goal.returns-clause-taken
returns-clause-taken g c =
    let first = c.args.first.now in
    on_ok_weaker c.read_found.result (λ (read : g.R.Repository.clean c.read_found.new.archive → (a : Archive)
    → g.R.Repository.stands c.take_page.new.archive a
    → TakesThese g.K.Reader.takes c.take_page.new.reader a (found_ahead c.args.self.now a) c.read_found.new.reader) clean (a : Archive) s.
    let rest = read clean a (c.take_page.ensures.reads.stands a s) in (
      first ++ rest.0,
      map-append entry_view first rest.0 ∙ ap (λ l. map entry_view first ++ l) rest.1,
      g.met.K.Reader.takes_more c.args.reader.now c.take_page.new.reader c.read_found.new.reader a first rest.0
          (c.in_ok-take_page.ensures.taken (c.read_found.ensures.reads.falls clean) a s tt) rest.2,
    )) c.read_found.ensures.taken

pub returns-clause-ended : goal.returns-clause-ended
returns-clause-ended g c =
    on_ok_weaker c.read_found.result (λ (ended : g.R.Repository.clean c.read_found.new.archive → (a : Archive)
    → g.R.Repository.stands c.take_page.new.archive a → IsAtEnd c.args.self.now a c.read_found.new.self) clean (a : Archive) s.
    ended clean a (c.take_page.ensures.reads.stands a s)) c.read_found.ensures.ended
