use Rattle.std.proofs.Common.{◌++◌, ℕ, List, None, map, refl, sym, subst, arith}
use Rattle.record_archive.specs.Archive.{Archive}
use Rattle.record_noted.specs.Histories.{rows_of}
use Rattle.record_reads.specs.Events.{event_of}
use Rattle.record_reads.specs.declared.events.EventRow.{EventRow}
use Rattle.record_tables.specs.Events.{Event as Row}
use Rattle.cli_history.specs.Judgements.{IsMet}
use Rattle.cli_history.proofs.WalkLemmas.{Walked, looks_on, looks_still, next_none, next_some, walked_all, walked_more, walked_none, walked_out}
use Rattle.cli_history.proofs.marks.event_with_mark.Goals as goal

pub loop-init : goal.loop-init
loop-init g c = record {
  looks = looks_still g.S.Store c.args.noted.now;
  walked = λ clean (a : Archive) (ls : List (List ℕ)) stands.
      let P = IsMet c.args.front.now None in
      subst (λ from. Walked P (rows_of ls) from 0) (sym c.all-events.ensures) (walked_none P (rows_of ls) refl);
}

pub loop-preserved : goal.loop-preserved
loop-preserved g c =
    let was = c.loop.invariant in
    record {
      looks = looks_on g.S.Store c.args.noted.now c.loop.noted c.next_page.new.noted was.looks c.next_page.ensures.looks;
      walked = λ clean (a : Archive) (ls : List (List ℕ)) stands.
          let met = IsMet c.args.front.now c.met_in-met.result in
          let on =
          next_some (rows_of ls) c.loop.events.from c.next_page.new.self.from c.in_ok-page.field-0 c.in-Some.page c.in-Some.is
          (c.in_ok-page.ensures.page clean a ls (was.looks.lines a ls stands)) in
          walked_more (IsMet c.args.front.now c.loop.met) met (rows_of ls) c.loop.events.from c.next_page.new.self.from c.loop.counter
          (map event_of c.in-Some.page.items) (was.walked (c.next_page.ensures.looks.falls clean) a ls stands) on
          (λ (front : List Row) so_far.
          subst (λ (rows : List EventRow). met (front ++ map event_of rows)) c.as_slice.ensures.value (c.met_in-met.ensures front so_far));
    }

pub returns-in_default-clause-met : goal.returns-in_default-clause-met
returns-in_default-clause-met g c = λ clean (a : Archive) (ls : List (List ℕ)) stands.
    let was = c.loop.invariant in
    let none =
    next_none (rows_of ls) c.loop.events.from c.next_page.new.self.from c.in_ok-page.field-0 c.in_default.is
    (c.in_ok-page.ensures.page clean a ls (was.looks.lines a ls stands)) in
    walked_all (IsMet c.args.front.now c.loop.met) (rows_of ls) c.loop.events.from c.loop.counter
    (was.walked (c.next_page.ensures.looks.falls clean) a ls stands) none

pub returns-clause-met : goal.returns-clause-met
returns-clause-met g c = λ clean (a : Archive) (ls : List (List ℕ)) stands.
    walked_out (IsMet c.args.front.now c.loop.met) (rows_of ls) c.loop.events.from c.loop.counter
    (c.loop.invariant.walked clean a ls stands) (omega arith)
