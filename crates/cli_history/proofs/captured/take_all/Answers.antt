use Rattle.std.proofs.Common.{◌++◌, ℕ, List, map, sym, subst, arith}
use Rattle.record_archive.specs.Archive.{Archive}
use Rattle.record_noted.specs.Histories.{rows_of}
use Rattle.record_reads.specs.Events.{event_of}
use Rattle.record_reads.specs.declared.events.EventRow.{EventRow}
use Rattle.record_tables.specs.Events.{Event as Row}
use Rattle.cli_history.specs.Captures.{AreCaptured}
use Rattle.cli_history.proofs.WalkLemmas.{Walked, glances_on, glances_still, lines_kept, next_none, next_some, walked_all, walked_more, walked_none}
use Rattle.cli_history.proofs.WalkLemmas.{walked_out}
use Rattle.cli_history.proofs.captured.take_all.Goals as goal

pub loop-init : goal.loop-init
loop-init g c = record {
  glances = glances_still g.S.Store c.args.archive.now;
  walked = λ captured clean (a : Archive) (ls : List (List ℕ)) stands has.
      let P = AreCaptured c.args.officer.now c.args.known.now in
      subst (λ from. Walked P (rows_of ls) from 0) (sym c.all-events.ensures) (walked_none P (rows_of ls) captured);
}

pub loop-preserved : goal.loop-preserved
loop-preserved g c =
    let was = c.loop.invariant in
    let officer = c.args.officer.now in
    record {
      glances = glances_on g.S.Store c.args.archive.now c.loop.archive c.next_page_of.new.archive was.glances c.next_page_of.ensures.glances;
      walked = λ captured clean (a : Archive) (ls : List (List ℕ)) stands has.
          let before = c.next_page_of.ensures.glances.falls clean in
          let on =
          next_some (rows_of ls) c.loop.events.from c.next_page_of.new.self.from c.in_ok-page.field-0 c.in-Some.page c.in-Some.is
          (c.in_ok-page.ensures.page clean ls (lines_kept g.S.Store c.args.archive.now c.loop.archive a ls was.glances stands before has)) in
          walked_more (AreCaptured officer c.loop.known) (AreCaptured officer c.take_page.new.known) (rows_of ls) c.loop.events.from
          c.next_page_of.new.self.from c.loop.counter (map event_of c.in-Some.page.items) (was.walked captured before a ls stands has) on
          (λ (front : List Row) so_far.
          subst (λ (rows : List EventRow). AreCaptured officer c.take_page.new.known (front ++ map event_of rows)) c.as_slice.ensures.value
          (c.in_ok-take_page.ensures front so_far));
    }

pub returns-in_default-clause-captured : goal.returns-in_default-clause-captured
returns-in_default-clause-captured g c = λ captured clean (a : Archive) (ls : List (List ℕ)) stands has.
    let was = c.loop.invariant in
    let before = c.next_page_of.ensures.glances.falls clean in
    let none =
    next_none (rows_of ls) c.loop.events.from c.next_page_of.new.self.from c.in_ok-page.field-0 c.in_default.is
    (c.in_ok-page.ensures.page clean ls (lines_kept g.S.Store c.args.archive.now c.loop.archive a ls was.glances stands before has)) in
    walked_all (AreCaptured c.args.officer.now c.loop.known) (rows_of ls) c.loop.events.from c.loop.counter
    (was.walked captured before a ls stands has) none

pub returns-clause-captured : goal.returns-clause-captured
returns-clause-captured g c = λ captured clean (a : Archive) (ls : List (List ℕ)) stands has.
    walked_out (AreCaptured c.args.officer.now c.loop.known) (rows_of ls) c.loop.events.from c.loop.counter
    (c.loop.invariant.walked captured clean a ls stands has) (omega arith)
