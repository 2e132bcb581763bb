use Rattle.std.proofs.Common.{◌++◌, ◌∙◌, ℕ, List, map, sym, subst, arith}
use Rattle.record_archive.specs.Archive.{Archive}
use Rattle.record_noted.specs.Histories.{rows_of}
use Rattle.record_reads.specs.Events.{event_of}
use Rattle.record_reads.specs.declared.events.EventRow.{EventRow}
use Rattle.record_tables.specs.Events.{Event as Row}
use Rattle.cli_history.specs.Judgements.{IsJudged}
use Rattle.cli_history.proofs.WalkLemmas.{Walked, looks_on, looks_still, next_none, next_some, walked_all, walked_more, walked_none, walked_out}
use Rattle.cli_history.proofs.judging.judge_events.Goals as goal

pub loop-init : goal.loop-init
loop-init g c = record {
  looks = looks_still g.S.Store c.args.noted.now;
  head = c.in_ok-judgement.ensures.head;
  walked = λ clean (a : Archive) (ls : List (List ℕ)) stands.
      let P = IsJudged c.in_ok-judgement.judgement in
      subst (λ from. Walked P (rows_of ls) from 0) (sym c.all-events.ensures) (walked_none P (rows_of ls) c.in_ok-judgement.ensures.judged);
}

pub loop-preserved : goal.loop-preserved
loop-preserved g c =
    let was = c.loop.invariant in
    record {
      looks = looks_on g.S.Store c.args.noted.now c.loop.noted c.next_page.new.noted was.looks c.next_page.ensures.looks;
      head = c.in_ok-judge_page.ensures.head ∙ was.head;
      walked = λ clean (a : Archive) (ls : List (List ℕ)) stands.
          let on =
          next_some (rows_of ls) c.loop.events.from c.next_page.new.self.from c.in_ok-page.field-0 c.in-Some.page c.in-Some.is
          (c.in_ok-page.ensures.page clean a ls (was.looks.lines a ls stands)) in
          walked_more (IsJudged c.loop.judgement) (IsJudged c.judge_page.new.self) (rows_of ls) c.loop.events.from c.next_page.new.self.from
          c.loop.counter (map event_of c.in-Some.page.items) (was.walked (c.next_page.ensures.looks.falls clean) a ls stands) on
          (λ (front : List Row) so_far.
          subst (λ (rows : List EventRow). IsJudged c.judge_page.new.self (front ++ map event_of rows)) c.as_slice.ensures.value
          (c.in_ok-judge_page.ensures.judged front so_far));
    }

pub returns-in_default-clause-judged : goal.returns-in_default-clause-judged
returns-in_default-clause-judged g c = λ clean (a : Archive) (ls : List (List ℕ)) stands.
    let was = c.loop.invariant in
    let none =
    next_none (rows_of ls) c.loop.events.from c.next_page.new.self.from c.in_ok-page.field-0 c.in_default.is
    (c.in_ok-page.ensures.page clean a ls (was.looks.lines a ls stands)) in
    walked_all (IsJudged c.loop.judgement) (rows_of ls) c.loop.events.from c.loop.counter
    (was.walked (c.next_page.ensures.looks.falls clean) a ls stands) none

pub returns-clause-judged : goal.returns-clause-judged
returns-clause-judged g c = λ clean (a : Archive) (ls : List (List ℕ)) stands.
    walked_out (IsJudged c.loop.judgement) (rows_of ls) c.loop.events.from c.loop.counter
    (c.loop.invariant.walked clean a ls stands) (omega arith)
