use Rattle.std.proofs.Common.{◌++◌, ℕ, List, map, sym, subst, arith}
use Rattle.record_archive.specs.Archive.{Archive}
use Rattle.record_noted.specs.Histories.{rows_of}
use Rattle.record_reads.specs.Events.{event_of}
use Rattle.record_reads.specs.declared.events.EventRow.{EventRow}
use Rattle.record_tables.specs.Events.{Event as Row}
use Rattle.cli_history.specs.OneSeal.{IsSealIn}
use Rattle.cli_history.specs.Tellings.{AreTold}
use Rattle.cli_history.proofs.WalkLemmas.{Walked, glances_on, glances_still, lines_kept, next_none, next_some, walked_all, walked_more, walked_none}
use Rattle.cli_history.proofs.WalkLemmas.{walked_out}
use Rattle.cli_history.proofs.seals.Seals.take_all.Goals as goal

pub loop-init : goal.loop-init
loop-init g c = record {
  glances = glances_still g.S.Store c.args.archive.now;
  walked = λ only told clean (a : Archive) (ls : List (List ℕ)) stands has.
      subst (λ from. Walked (AreTold c.args.self.now) (rows_of ls) from 0) (sym c.all-events.ensures)
      (walked_none (AreTold c.args.self.now) (rows_of ls) told);
  sealed = λ message enough is clean (a : Archive) (ls : List (List ℕ)) stands has.
      let P = IsSealIn message c.args.self.now in
      subst (λ from. Walked P (rows_of ls) from 0) (sym c.all-events.ensures) (walked_none P (rows_of ls) is);
}

pub loop-preserved : goal.loop-preserved
loop-preserved g c =
    let was = c.loop.invariant in
    record {
      glances = glances_on g.S.Store c.args.archive.now c.loop.archive c.next_page_of.new.archive was.glances c.next_page_of.ensures.glances;
      walked = λ only told clean (a : Archive) (ls : List (List ℕ)) stands has.
          let before = c.next_page_of.ensures.glances.falls clean in
          let on =
          next_some (rows_of ls) c.loop.events.from c.next_page_of.new.self.from c.in_ok-page.field-0 c.in-Some.page c.in-Some.is
          (c.in_ok-page.ensures.page clean ls (lines_kept g.S.Store c.args.archive.now c.loop.archive a ls was.glances stands before has)) in
          walked_more (AreTold c.loop.self) (AreTold c.take_page.new.self) (rows_of ls) c.loop.events.from c.next_page_of.new.self.from
          c.loop.counter (map event_of c.in-Some.page.items) (was.walked only told before a ls stands has) on (λ (front : List Row) so_far.
          subst (λ (rows : List EventRow). AreTold c.take_page.new.self (front ++ map event_of rows)) c.as_slice.ensures.value
          (c.in_ok-take_page.ensures.told only front so_far));
      sealed = λ message enough is clean (a : Archive) (ls : List (List ℕ)) stands has.
          let before = c.next_page_of.ensures.glances.falls clean in
          let on =
          next_some (rows_of ls) c.loop.events.from c.next_page_of.new.self.from c.in_ok-page.field-0 c.in-Some.page c.in-Some.is
          (c.in_ok-page.ensures.page clean ls (lines_kept g.S.Store c.args.archive.now c.loop.archive a ls was.glances stands before has)) in
          walked_more (IsSealIn message c.loop.self) (IsSealIn message c.take_page.new.self) (rows_of ls) c.loop.events.from
          c.next_page_of.new.self.from c.loop.counter (map event_of c.in-Some.page.items)
          (was.sealed message enough is before a ls stands has) on (λ (front : List Row) so_far.
          subst (λ (rows : List EventRow). IsSealIn message c.take_page.new.self (front ++ map event_of rows)) c.as_slice.ensures.value
          (c.in_ok-take_page.ensures.seal message enough front so_far));
    }

pub returns-in_default-clause-told : goal.returns-in_default-clause-told
returns-in_default-clause-told g c = λ only told clean (a : Archive) (ls : List (List ℕ)) stands has.
    let was = c.loop.invariant in
    let before = c.next_page_of.ensures.glances.falls clean in
    let none =
    next_none (rows_of ls) c.loop.events.from c.next_page_of.new.self.from c.in_ok-page.field-0 c.in_default.is
    (c.in_ok-page.ensures.page clean ls (lines_kept g.S.Store c.args.archive.now c.loop.archive a ls was.glances stands before has)) in
    walked_all (AreTold c.loop.self) (rows_of ls) c.loop.events.from c.loop.counter (was.walked only told before a ls stands has) none

pub returns-clause-told : goal.returns-clause-told
returns-clause-told g c = λ only told clean (a : Archive) (ls : List (List ℕ)) stands has.
    walked_out (AreTold c.loop.self) (rows_of ls) c.loop.events.from c.loop.counter
    (c.loop.invariant.walked only told clean a ls stands has) (omega arith)

pub returns-in_default-clause-seal : goal.returns-in_default-clause-seal
returns-in_default-clause-seal g c = λ message enough is clean (a : Archive) (ls : List (List ℕ)) stands has.
    let was = c.loop.invariant in
    let before = c.next_page_of.ensures.glances.falls clean in
    let none =
    next_none (rows_of ls) c.loop.events.from c.next_page_of.new.self.from c.in_ok-page.field-0 c.in_default.is
    (c.in_ok-page.ensures.page clean ls (lines_kept g.S.Store c.args.archive.now c.loop.archive a ls was.glances stands before has)) in
    walked_all (IsSealIn message c.loop.self) (rows_of ls) c.loop.events.from c.loop.counter
    (was.sealed message enough is before a ls stands has) none

pub returns-clause-seal : goal.returns-clause-seal
returns-clause-seal g c = λ message enough is clean (a : Archive) (ls : List (List ℕ)) stands has.
    walked_out (IsSealIn message c.loop.self) (rows_of ls) c.loop.events.from c.loop.counter
    (c.loop.invariant.sealed message enough is clean a ls stands has) (omega arith)
