use Rattle.std.proofs.Common.{ℕ, List, map, sym, subst, arith}
use Rattle.record_archive.specs.Archive.{Archive}
use Rattle.record_noted.specs.Histories.{rows_of}
use Rattle.record_reads.specs.Events.{event_of}
use Rattle.record_reads.specs.declared.events.EventRow.{EventRow}
use Rattle.record_tables.specs.Events.{Event as Row}
use Rattle.cli_history.specs.Certified.{Certifies}
use Rattle.cli_history.proofs.CertificateLaws.{more_certified, none_certified}
use Rattle.cli_history.proofs.WalkLemmas.{Walked, looks_on, looks_still, next_none, next_some, walked_all, walked_more, walked_none, walked_out}
use Rattle.cli_history.proofs.certificates.PrintedCertificates.print_all.Goals as goal

pub loop-init : goal.loop-init
loop-init g c = record {
  looks = looks_still g.S.Store c.args.noted.now;
  walked = λ clean (a : Archive) (ls : List (List ℕ)) stands.
      let written = g.K.Sink.written in
      let P = λ (rows : List Row). Certifies written c.args.self.now c.args.sink.now rows c.args.self.now c.args.sink.now in
      subst (λ from. Walked P (rows_of ls) from 0) (sym c.all-events.ensures)
      (walked_none P (rows_of ls) (none_certified written c.args.self.now c.args.sink.now));
}

pub loop-preserved : goal.loop-preserved
loop-preserved g c =
    let was = c.loop.invariant in
    let read = c.next_page.ensures.looks in
    let looked = c.print_page.ensures.looks in
    let written = g.K.Sink.written in
    let self = c.args.self.now in
    let sink = c.args.sink.now in
    record {
      looks = looks_on g.S.Store c.args.noted.now c.loop.noted c.print_page.new.noted was.looks
          (looks_on g.S.Store c.loop.noted c.next_page.new.noted c.print_page.new.noted read looked);
      walked = λ clean (a : Archive) (ls : List (List ℕ)) stands.
          let mid = looked.falls clean in
          let here = was.looks.lines a ls stands in
          let on =
          next_some (rows_of ls) c.loop.events.from c.next_page.new.self.from c.in_ok-page.field-0 c.in-Some.page c.in-Some.is
          (c.in_ok-page.ensures.page mid a ls here) in
          walked_more (λ (rows : List Row). Certifies written self sink rows c.loop.self c.loop.sink)
          (λ (rows : List Row). Certifies written self sink rows c.print_page.new.self c.print_page.new.sink) (rows_of ls) c.loop.events.from
          c.next_page.new.self.from c.loop.counter (map event_of c.in-Some.page.items) (was.walked (read.falls mid) a ls stands) on
          (λ (front : List Row) so_far.
          more_certified written self c.loop.self c.print_page.new.self sink c.loop.sink c.print_page.new.sink front
          (map event_of c.in-Some.page.items) so_far
          (subst (λ (rows : List EventRow). Certifies written c.loop.self c.loop.sink (map event_of rows) c.print_page.new.self
          c.print_page.new.sink) c.as_slice.ensures.value c.in_ok-print_page.ensures.certified));
    }

pub returns-in_default-clause-certified : goal.returns-in_default-clause-certified
returns-in_default-clause-certified g c = λ clean (a : Archive) (ls : List (List ℕ)) stands.
    let was = c.loop.invariant in
    let none =
    next_none (rows_of ls) c.loop.events.from c.next_page.new.self.from c.in_ok-page.field-0 c.in_default.is
    (c.in_ok-page.ensures.page clean a ls (was.looks.lines a ls stands)) in
    walked_all (λ (rows : List Row). Certifies g.K.Sink.written c.args.self.now c.args.sink.now rows c.loop.self c.loop.sink) (rows_of ls)
    c.loop.events.from c.loop.counter (was.walked (c.next_page.ensures.looks.falls clean) a ls stands) none

pub returns-clause-certified : goal.returns-clause-certified
returns-clause-certified g c = λ clean (a : Archive) (ls : List (List ℕ)) stands.
    walked_out (λ (rows : List Row). Certifies g.K.Sink.written c.args.self.now c.args.sink.now rows c.loop.self c.loop.sink) (rows_of ls)
    c.loop.events.from c.loop.counter (c.loop.invariant.walked clean a ls stands) (omega arith)
