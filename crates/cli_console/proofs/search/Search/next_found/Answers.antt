use Rattle.std.proofs.Common.{◌≤◌, ◌^◌, ◌∙◌, ◌++◌, ap, arith, map, sym}
use Rattle.std.proofs.lemmas.List.{nil_from_length}
use Rattle.record_archive.specs.Archive.{Archive}
use Rattle.record_choice.specs.Entries.{entry_view}
use Rattle.cli_console.specs.Finds.{found_ahead}
use Rattle.cli_console.proofs.Ahead.{counts_up, ended, is_bounded_still, none_further, page_ahead, same_still, turned}
use Rattle.cli_console.proofs.Noted.{noted_none, noted_page}
use Rattle.cli_console.proofs.search.Search.next_found.Goals as goal

pub returns-in_default-clause-first : goal.returns-in_default-clause-first
returns-in_default-clause-first g c = λ clean (a : Archive) s.
    let before = c.step.ensures.reads.falls clean in
    let stood = c.loop.invariant.reads.stands a s in
    sym (c.loop.invariant.none before a s)
    ∙ ended c.loop.self a c.in_ok-page.field-0 c.step.new.self.from (g.met.R.Repository.is_archive c.loop.archive a stood)
    (is_bounded_still c.args.self.now c.loop.self c.loop.invariant.same c.requires) c.in_default.is (c.in_ok-page.ensures.page clean a stood)

pub returns-in_default-clause-bounded : goal.returns-in_default-clause-bounded
returns-in_default-clause-bounded g c =
    is_bounded_still c.loop.self c.step.new.self c.in_ok-page.ensures.same
    (is_bounded_still c.args.self.now c.loop.self c.loop.invariant.same c.requires)

pub returns-then-not-is_empty-clause-bounded : goal.returns-then-not-is_empty-clause-bounded
returns-then-not-is_empty-clause-bounded g c =
    is_bounded_still c.loop.self c.step.new.self c.in_ok-page.ensures.same
    (is_bounded_still c.args.self.now c.loop.self c.loop.invariant.same c.requires)

pub returns-clause-first : goal.returns-clause-first
returns-clause-first g c = λ clean (a : Archive) s.
    let big : 2 ^ 32 ≤ c.loop.counter = omega arith in
    let stood = c.loop.invariant.reads.stands a s in
    sym (c.loop.invariant.none clean a s)
    ∙ none_further c.loop.self a (g.met.R.Repository.is_archive c.loop.archive a stood) c.loop.counter big (c.loop.invariant.on clean a s)

pub returns-clause-bounded : goal.returns-clause-bounded
returns-clause-bounded g c = is_bounded_still c.args.self.now c.loop.self c.loop.invariant.same c.requires

pub returns-in_default-clause-typed : goal.returns-in_default-clause-typed
returns-in_default-clause-typed g c = c.in_ok-page.ensures.same.typed ∙ c.loop.invariant.same.typed

pub returns-then-not-is_empty-clause-typed : goal.returns-then-not-is_empty-clause-typed
returns-then-not-is_empty-clause-typed g c = c.in_ok-page.ensures.same.typed ∙ c.loop.invariant.same.typed

pub returns-clause-typed : goal.returns-clause-typed
returns-clause-typed g c = c.loop.invariant.same.typed

pub returns-in_default-clause-noted : goal.returns-in_default-clause-noted
returns-in_default-clause-noted g c = λ clean (a : Archive) s.
    noted_none c.loop.self c.step.new.self a c.in_ok-page.field-0 c.in_default.is c.in_ok-page.ensures.same
    (c.in_ok-page.ensures.page clean a (c.loop.invariant.reads.stands a s)) c.in_ok-page.ensures.noted
    ∙ c.loop.invariant.noted (c.step.ensures.reads.falls clean) a s

pub returns-then-not-is_empty-clause-noted : goal.returns-then-not-is_empty-clause-noted
returns-then-not-is_empty-clause-noted g c = λ clean (a : Archive) s.
    noted_page c.loop.self c.step.new.self a c.in_ok-page.field-0 c.in-Some.page c.in-Some.is c.in_ok-page.ensures.same
    (c.in_ok-page.ensures.page clean a (c.loop.invariant.reads.stands a s)) c.in_ok-page.ensures.noted
    ∙ c.loop.invariant.noted (c.step.ensures.reads.falls clean) a s

pub loop-preserved : goal.loop-preserved
loop-preserved g c =
    let was = c.loop.invariant in
    let page = c.in-Some.page.found.items in
    let same = c.in_ok-page.ensures.same in
    record {
      reads = record {
        stands = λ (a : Archive) s. c.step.ensures.reads.stands a (was.reads.stands a s);
        falls = λ clean. was.reads.falls (c.step.ensures.reads.falls clean);
      };
      same = same_still c.args.self.now c.loop.self c.step.new.self was.same same;
      on = λ clean (a : Archive) s.
          let turn =
          turned c.loop.self a c.in_ok-page.field-0 c.in-Some.page c.step.new.self.from c.in-Some.is
          (c.in_ok-page.ensures.page clean a (was.reads.stands a s)) in
          counts_up c.loop.counter c.loop.self.from c.step.new.self.from turn.0 (was.on (c.step.ensures.reads.falls clean) a s) turn.2;
      noted = λ clean (a : Archive) s.
          noted_page c.loop.self c.step.new.self a c.in_ok-page.field-0 c.in-Some.page c.in-Some.is same
          (c.in_ok-page.ensures.page clean a (was.reads.stands a s)) c.in_ok-page.ensures.noted
          ∙ was.noted (c.step.ensures.reads.falls clean) a s;
      none = λ clean (a : Archive) s.
          let turn =
          turned c.loop.self a c.in_ok-page.field-0 c.in-Some.page c.step.new.self.from c.in-Some.is
          (c.in_ok-page.ensures.page clean a (was.reads.stands a s)) in
          let nothing = nil_from_length page (grind (arith, c.is_empty.ensures, c.if-not-is_empty.false)) in
          ap (λ es. map entry_view es ++ found_ahead c.step.new.self a) (sym nothing)
          ∙ page_ahead c.loop.self c.step.new.self a (map entry_view page) same turn.1 ∙ was.none (c.step.ensures.reads.falls clean) a s;
    }

pub returns-clause-noted : goal.returns-clause-noted
returns-clause-noted g c = λ clean (a : Archive) s. c.loop.invariant.noted clean a s
