use Rattle.std.proofs.Common.{◌∙◌, ap, map, ◌++◌, subst, sym}
use Rattle.record_archive.specs.Archive.{Archive}
use Rattle.record_choice.specs.Entries.{entry_view}
use Rattle.cli_console.specs.Finds.{IsFirst, found_ahead, found_in}
use Rattle.cli_console.specs.Turns.{page_view}
use Rattle.cli_readings.specs.Exports.{WritesExport}
use Rattle.cli_readings.proofs.Ended.{none_ahead, search_ended, some_found}
use Rattle.cli_readings.proofs.Exported.{whole_export}
use Rattle.cli_readings.proofs.export.export_records.Goals as goal

pub returns-in_default-clause-exported : goal.returns-in_default-clause-exported
returns-in_default-clause-exported g c = λ clean (a : Archive) s.
    let is = g.met.R.Repository.is_archive c.args.archive.now a s in
    let none = subst (λ o. IsFirst (found_ahead c.in_ok-search.search a) (page_view o) (found_ahead c.next_found.new.self a)) c.in_default.is
    (c.in_ok-first.ensures.first clean a s) in
    sym (c.in_ok-search.ensures.found a is) ∙ none

pub returns-clause-exported : goal.returns-clause-exported
returns-clause-exported g c = λ clean (a : Archive) s.
    let made = g.D.Destination.made in
    let is = g.met.R.Repository.is_archive c.args.archive.now a s in
    let between = c.read_on.ensures.reads.falls clean in
    let stands = c.next_found.ensures.reads.stands a s in
    let took = c.in_ok-read_on.ensures.taken clean a stands in
    let first = subst (λ o. IsFirst (found_ahead c.in_ok-search.search a) (page_view o) (found_ahead c.next_found.new.self a)) c.in-Some.is
    (c.in_ok-first.ensures.first between a s) in
    let found = took.1 ∙ ap (λ es. map entry_view es ++ found_ahead c.next_found.new.self a) c.as_slice.ensures.value ∙ first.1
    ∙ c.in_ok-search.ensures.found a is in (
      some_found (found_in c.args.choice.now c.args.questions.now a) (map entry_view c.in-Some.first.items)
          (found_ahead c.next_found.new.self a) first.0 (first.1 ∙ c.in_ok-search.ensures.found a is),
      took.0,
      found,
      subst (λ out. WritesExport made c.args.seals c.args.destination a took.0 out) (sym c.into_outgoing.ensures)
          (whole_export made c.args.choice.now c.args.questions.now c.args.seals c.args.destination c.prepare.new.self c.new-exporting.result
          c.read_on.new.reader a took.0 is found c.in_ok-prepare.ensures c.new-exporting.ensures.destination c.new-exporting.ensures.count
          c.new-exporting.ensures.seals c.new-exporting.ensures.last c.new-exporting.ensures.volume took.2),
    )

pub returns-in_default-clause-ended : goal.returns-in_default-clause-ended
returns-in_default-clause-ended g c = λ clean (a : Archive) s.
    let is = g.met.R.Repository.is_archive c.args.archive.now a s in
    let none = subst (λ o. IsFirst (found_ahead c.in_ok-search.search a) (page_view o) (found_ahead c.next_found.new.self a)) c.in_default.is
    (c.in_ok-first.ensures.first clean a s) in
    search_ended c.args.choice.now (found_in c.args.choice.now c.args.questions.now a) c.in_ok-search.search c.next_found.new.self a
    c.in_ok-search.ensures.typed c.in_ok-search.ensures.none (c.in_ok-search.ensures.found a is)
    (none_ahead c.in_ok-search.search c.next_found.new.self a c.in_ok-search.ensures.none none c.in_ok-first.ensures.typed
    (c.in_ok-first.ensures.noted clean a s))

pub returns-clause-ended : goal.returns-clause-ended
returns-clause-ended g c = λ clean (a : Archive) s.
    let is = g.met.R.Repository.is_archive c.args.archive.now a s in
    let at = c.in_ok-read_on.ensures.ended clean a (c.next_found.ensures.reads.stands a s) in
    search_ended c.args.choice.now (found_in c.args.choice.now c.args.questions.now a) c.in_ok-search.search c.read_on.new.self a
    c.in_ok-search.ensures.typed c.in_ok-search.ensures.none (c.in_ok-search.ensures.found a is) (record {
      typed = at.typed ∙ c.in_ok-first.ensures.typed;
      noted = at.noted ∙ c.in_ok-first.ensures.noted (c.read_on.ensures.reads.falls clean) a s;
    })
