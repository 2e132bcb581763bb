use Rattle.std.proofs.Common.{ℕ, List, map, sym, subst, arith}
use Rattle.record_archive.specs.Archive.{Archive}
use Rattle.record_noted.specs.Histories.{rows_of}
use Rattle.record_reads.specs.Events.{event_of}
use Rattle.record_reads.specs.declared.events.EventRow.{EventRow}
use Rattle.record_tables.specs.Events.{Event as Row}
use Rattle.cli_history.specs.Printed.{PrintsRows}
use Rattle.cli_history.proofs.PrintingLaws.{more_printed, none_printed}
use Rattle.cli_history.proofs.WalkLemmas.{Walked, looks_on, looks_still, next_none, next_some, walked_all, walked_more, walked_none, walked_out}
use Rattle.cli_history.proofs.printing.PrintedHistory.print_all.Goals as goal

pub loop-init : goal.loop-init
loop-init g c = record {
  looks = looks_still g.S.Store c.args.noted.now;
  walked = λ clean (a : Archive) (ls : List (List ℕ)) stands.
      let written = g.K.Sink.written in
      let P = λ (rows : List Row). PrintsRows written c.args.self.now c.args.text.now rows c.args.self.now c.args.text.now in
      subst (λ from. Walked P (rows_of ls) from 0) (sym c.all-events.ensures)
      (walked_none P (rows_of ls) (none_printed written c.args.self.now c.args.text.now));
}

pub loop-preserved : goal.loop-preserved
loop-preserved g c =
    let was = c.loop.invariant in
    let written = g.K.Sink.written in
    let self = c.args.self.now in
    let text = c.args.text.now in
    record {
      looks = looks_on g.S.Store c.args.noted.now c.loop.noted c.next_page.new.noted was.looks c.next_page.ensures.looks;
      walked = λ clean (a : Archive) (ls : List (List ℕ)) stands.
          let on =
          next_some (rows_of ls) c.loop.events.from c.next_page.new.self.from c.in_ok-page.field-0 c.in-Some.page c.in-Some.is
          (c.in_ok-page.ensures.page clean a ls (was.looks.lines a ls stands)) in
          walked_more (λ (rows : List Row). PrintsRows written self text rows c.loop.self c.loop.text)
          (λ (rows : List Row). PrintsRows written self text rows c.print_page.new.self c.print_page.new.text) (rows_of ls) c.loop.events.from
          c.next_page.new.self.from c.loop.counter (map event_of c.in-Some.page.items)
          (was.walked (c.next_page.ensures.looks.falls clean) a ls stands) on
          (λ (front : List Row) so_far.
          more_printed written self c.loop.self c.print_page.new.self text c.loop.text c.print_page.new.text front
          (map event_of c.in-Some.page.items) so_far
          (subst (λ (rows : List EventRow). PrintsRows written c.loop.self c.loop.text (map event_of rows) c.print_page.new.self
          c.print_page.new.text) c.as_slice.ensures.value c.in_ok-print_page.ensures));
    }

pub returns-in_default-clause-printed : goal.returns-in_default-clause-printed
returns-in_default-clause-printed g c = λ clean (a : Archive) (ls : List (List ℕ)) stands.
    let was = c.loop.invariant in
    let none =
    next_none (rows_of ls) c.loop.events.from c.next_page.new.self.from c.in_ok-page.field-0 c.in_default.is
    (c.in_ok-page.ensures.page clean a ls (was.looks.lines a ls stands)) in
    walked_all (λ (rows : List Row). PrintsRows g.K.Sink.written c.args.self.now c.args.text.now rows c.loop.self c.loop.text) (rows_of ls)
    c.loop.events.from c.loop.counter (was.walked (c.next_page.ensures.looks.falls clean) a ls stands) none

pub returns-clause-printed : goal.returns-clause-printed
returns-clause-printed g c = λ clean (a : Archive) (ls : List (List ℕ)) stands.
    walked_out (λ (rows : List Row). PrintsRows g.K.Sink.written c.args.self.now c.args.text.now rows c.loop.self c.loop.text) (rows_of ls)
    c.loop.events.from c.loop.counter (c.loop.invariant.walked clean a ls stands) (omega arith)
