use Rattle.std.proofs.Common.{[], ◌∙◌, ap, map, ◌++◌, refl, subst, sym}
use Rattle.record_archive.specs.Archive.{Archive}
use Rattle.record_choice.specs.Entries.{entry_view}
use Rattle.cli_console.specs.Finds.{IsFirst, found_ahead, found_in}
use Rattle.cli_console.specs.Turns.{page_view}
use Rattle.cli_readings.specs.VolumeExports.{IsBegunBy}
use Rattle.cli_readings.proofs.Ended.{none_ahead, search_ended}
use Rattle.cli_readings.proofs.VolumeExportLaws.{begun_by, none_exported, volume_exported}
use Rattle.cli_readings.proofs.volume_exports.ExportOfVolumes.add_volume.Goals as goal

-- where no record is found
pub returns-in_default-clause-added : goal.returns-in_default-clause-added
returns-in_default-clause-added g c = λ clean (a : Archive) s.
    let is = g.met.R.Repository.is_archive c.args.archive.now a s in
    let none = subst (λ o. IsFirst (found_ahead c.in_ok-search.search a) (page_view o) (found_ahead c.next_found.new.self a)) c.in_default.is
    (c.in_ok-first.ensures.first clean a s) in (
      [],
      sym none ∙ c.in_ok-search.ensures.found a is,
      none_exported g.D.Destination.made c.args.volume a c.args.seals c.args.self.now,
    )

pub returns-in_default-clause-begun : goal.returns-in_default-clause-begun
returns-in_default-clause-begun g c = λ clean (a : Archive) s.
    let is = g.met.R.Repository.is_archive c.args.archive.now a s in
    let none = subst (λ o. IsFirst (found_ahead c.in_ok-search.search a) (page_view o) (found_ahead c.next_found.new.self a)) c.in_default.is
    (c.in_ok-first.ensures.first clean a s) in
    subst (λ f. IsBegunBy f c.args.self.now c.args.self.now) (sym none ∙ c.in_ok-search.ensures.found a is) refl

pub returns-in_default-clause-ended : goal.returns-in_default-clause-ended
returns-in_default-clause-ended g c = λ clean (a : Archive) s.
    let is = g.met.R.Repository.is_archive c.args.archive.now a s in
    let none = subst (λ o. IsFirst (found_ahead c.in_ok-search.search a) (page_view o) (found_ahead c.next_found.new.self a)) c.in_default.is
    (c.in_ok-first.ensures.first clean a s) in
    search_ended c.args.choice.now (found_in c.args.choice.now c.args.questions.now a) c.in_ok-search.search c.next_found.new.self a
    c.in_ok-search.ensures.typed c.in_ok-search.ensures.none (c.in_ok-search.ensures.found a is)
    (none_ahead c.in_ok-search.search c.next_found.new.self a c.in_ok-search.ensures.none none c.in_ok-first.ensures.typed
    (c.in_ok-first.ensures.noted clean a s))

-- and where one is
pub returns-clause-added : goal.returns-clause-added
returns-clause-added g c = λ clean (a : Archive) s.
    let is = g.met.R.Repository.is_archive c.args.archive.now a s in
    let between = c.read_on.ensures.reads.falls clean in
    let stands = c.next_found.ensures.reads.stands a s in
    let took = c.in_ok-read_on.ensures.taken clean a stands in
    let first = subst (λ o. IsFirst (found_ahead c.in_ok-search.search a) (page_view o) (found_ahead c.next_found.new.self a)) c.in-Some.is
    (c.in_ok-first.ensures.first between a s) in
    let found = took.1 ∙ ap (λ es. map entry_view es ++ found_ahead c.next_found.new.self a) c.as_slice.ensures.value ∙ first.1
    ∙ c.in_ok-search.ensures.found a is in (
      took.0,
      found,
      volume_exported g.D.Destination.made c.args.choice.now c.args.questions.now c.args.volume c.args.seals c.args.self.now c.begin.new.self
          c.turn_to.new.self c.read_on.new.reader a took.0 is found c.in_ok-begin.ensures c.turn_to.ensures took.2,
    )

pub returns-clause-begun : goal.returns-clause-begun
returns-clause-begun g c = λ clean (a : Archive) s.
    let is = g.met.R.Repository.is_archive c.args.archive.now a s in
    let between = c.read_on.ensures.reads.falls clean in
    let first = subst (λ o. IsFirst (found_ahead c.in_ok-search.search a) (page_view o) (found_ahead c.next_found.new.self a)) c.in-Some.is
    (c.in_ok-first.ensures.first between a s) in
    begun_by g.D.Destination.made (found_in c.args.choice.now c.args.questions.now a) (map entry_view c.in-Some.first.items)
    (found_ahead c.next_found.new.self a) c.args.self.now (record c.begin.new.self { exporting = c.read_on.new.reader }) first.0
    (first.1 ∙ c.in_ok-search.ensures.found a is) c.in_ok-begin.ensures.begun

pub returns-clause-ended : goal.returns-clause-ended
returns-clause-ended g c = λ clean (a : Archive) s.
    let is = g.met.R.Repository.is_archive c.args.archive.now a s in
    let at = c.in_ok-read_on.ensures.ended clean a (c.next_found.ensures.reads.stands a s) in
    search_ended c.args.choice.now (found_in c.args.choice.now c.args.questions.now a) c.in_ok-search.search c.read_on.new.self a
    c.in_ok-search.ensures.typed c.in_ok-search.ensures.none (c.in_ok-search.ensures.found a is) (record {
      typed = at.typed ∙ c.in_ok-first.ensures.typed;
      noted = at.noted ∙ c.in_ok-first.ensures.noted (c.read_on.ensures.reads.falls clean) a s;
    })
