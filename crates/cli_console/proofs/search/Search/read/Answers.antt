use Rattle.std.proofs.Common.{◌≤◌, ◌^◌, ◌++◌, ◌∙◌, arith, map, subst, sym}
use Rattle.record_archive.specs.Archive.{Archive}
use Rattle.record_choice.specs.Entries.{entry_view}
use Rattle.record_choice.specs.Views.{choice_view}
use Rattle.cli_console.specs.Finds.{found_ahead}
use Rattle.cli_console.specs.Headers.{AreBeside}
use Rattle.cli_console.proofs.Ahead.{all_taken, counts_up, ended, is_bounded_still, more_taken, none_further, page_ahead, same_still, turned}
use Rattle.cli_console.proofs.Noted.{all_noted, noted_last, noted_page}
use Rattle.cli_console.proofs.Told.{page_beside}
use Rattle.cli_console.proofs.search.Search.read.Goals as goal

pub returns-in_default-clause-taken : goal.returns-in_default-clause-taken
returns-in_default-clause-taken g c = λ clean (a : Archive) s.
    let so_far = c.loop.invariant.taken (c.step.ensures.reads.falls clean) a s in
    let stood = c.loop.invariant.reads.stands a s in
    let none =
    ended c.loop.self a c.in_ok-page.field-0 c.step.new.self.from (g.met.R.Repository.is_archive c.loop.archive a stood)
    (is_bounded_still c.args.self.now c.loop.self c.loop.invariant.same c.requires.bounded) c.in_default.is
    (c.in_ok-page.ensures.page clean a stood) in
    (so_far.0, all_taken so_far.0 (found_ahead c.args.self.now a) (found_ahead c.loop.self a) so_far.1 none, so_far.2)

pub returns-in_default-clause-ended : goal.returns-in_default-clause-ended
returns-in_default-clause-ended g c = λ clean (a : Archive) s.
    let before = c.step.ensures.reads.falls clean in
    let stood = c.loop.invariant.reads.stands a s in
    let none =
    ended c.loop.self a c.in_ok-page.field-0 c.step.new.self.from (g.met.R.Repository.is_archive c.loop.archive a stood)
    (is_bounded_still c.args.self.now c.loop.self c.loop.invariant.same c.requires.bounded) c.in_default.is
    (c.in_ok-page.ensures.page clean a stood) in
    record {
      typed = c.in_ok-page.ensures.same.typed ∙ c.loop.invariant.same.typed;
      noted =
          noted_last c.loop.self c.step.new.self a c.in_ok-page.field-0 c.in_default.is none c.in_ok-page.ensures.noted
          ∙ c.loop.invariant.noted before a s;
    }

pub loop-preserved : goal.loop-preserved
loop-preserved g c =
    let was = c.loop.invariant in
    record {
      reads = record {
        stands = λ (a : Archive) s. c.take_page.ensures.reads.stands a (c.step.ensures.reads.stands a (was.reads.stands a s));
        falls = λ clean. was.reads.falls (c.step.ensures.reads.falls (c.take_page.ensures.reads.falls clean));
      };
      same = same_still c.args.self.now c.loop.self c.step.new.self was.same c.in_ok-page.ensures.same;
      on = λ clean (a : Archive) s.
          let mid = c.take_page.ensures.reads.falls clean in
          let turn =
          turned c.loop.self a c.in_ok-page.field-0 c.in-Some.page c.step.new.self.from c.in-Some.is
          (c.in_ok-page.ensures.page mid a (was.reads.stands a s)) in
          counts_up c.loop.counter c.loop.self.from c.step.new.self.from turn.0 (was.on (c.step.ensures.reads.falls mid) a s) turn.2;
      noted = λ clean (a : Archive) s.
          let mid = c.take_page.ensures.reads.falls clean in
          noted_page c.loop.self c.step.new.self a c.in_ok-page.field-0 c.in-Some.page c.in-Some.is c.in_ok-page.ensures.same
          (c.in_ok-page.ensures.page mid a (was.reads.stands a s)) c.in_ok-page.ensures.noted
          ∙ was.noted (c.step.ensures.reads.falls mid) a s;
      taken = λ clean (a : Archive) s.
          let mid = c.take_page.ensures.reads.falls clean in
          let stood = was.reads.stands a s in
          let so_far = was.taken (c.step.ensures.reads.falls mid) a s in
          let page = c.in-Some.page.found.items in
          let turn =
          turned c.loop.self a c.in_ok-page.field-0 c.in-Some.page c.step.new.self.from c.in-Some.is (c.in_ok-page.ensures.page mid a stood) in
          let beside =
          page_beside c.loop.self.questions.now (choice_view c.loop.self.choice) a (g.met.R.Repository.is_archive c.loop.archive a stood)
          c.args.beside c.loop.self.from c.step.new.self.from c.in_ok-page.field-0 c.in-Some.page c.in-Some.is turn.1
          (c.in_ok-page.ensures.headers mid a stood) in
          let told =
          subst (λ hs. AreBeside a c.as_slice.result.now hs) (sym c.as_slice-in-loop.ensures.value)
          (subst (λ es. AreBeside a es c.in-Some.page.headers.items) (sym c.as_slice.ensures.value) beside) in
          let took =
          subst (λ l. g.K.Reader.takes c.loop.reader a l c.take_page.new.reader) c.as_slice.ensures.value
          (c.in_ok-take_page.ensures.taken clean a (c.step.ensures.reads.stands a stood) told) in (
            so_far.0 ++ page,
            more_taken so_far.0 page (found_ahead c.args.self.now a) (found_ahead c.loop.self a) (found_ahead c.step.new.self a) so_far.1
                (page_ahead c.loop.self c.step.new.self a (map entry_view page) c.in_ok-page.ensures.same turn.1),
            g.met.K.Reader.takes_more c.args.reader.now c.loop.reader c.take_page.new.reader a so_far.0 page so_far.2 took,
          );
    }

pub returns-clause-taken : goal.returns-clause-taken
returns-clause-taken g c = λ clean (a : Archive) s.
    let big : 2 ^ 32 ≤ c.loop.counter = omega arith in
    let so_far = c.loop.invariant.taken clean a s in
    let stood = c.loop.invariant.reads.stands a s in
    let none =
    none_further c.loop.self a (g.met.R.Repository.is_archive c.loop.archive a stood) c.loop.counter big (c.loop.invariant.on clean a s) in
    (so_far.0, all_taken so_far.0 (found_ahead c.args.self.now a) (found_ahead c.loop.self a) so_far.1 none, so_far.2)

pub returns-clause-ended : goal.returns-clause-ended
returns-clause-ended g c = λ clean (a : Archive) s.
    let big : 2 ^ 32 ≤ c.loop.counter = omega arith in
    let stood = c.loop.invariant.reads.stands a s in
    let none =
    none_further c.loop.self a (g.met.R.Repository.is_archive c.loop.archive a stood) c.loop.counter big (c.loop.invariant.on clean a s) in
    record { typed = c.loop.invariant.same.typed; noted = all_noted c.loop.self a none ∙ c.loop.invariant.noted clean a s }
