use Rattle.std.proofs.Common.{◌++◌, ℕ, List, map, sym, subst, arith}
use Rattle.record_archive.specs.Archive.{Archive}
use Rattle.record_noted.specs.Histories.{rows_of}
use Rattle.record_reads.specs.Events.{event_of}
use Rattle.record_reads.specs.declared.events.EventRow.{EventRow}
use Rattle.cli_history.specs.Replays.{Replays}
use Rattle.cli_history.proofs.ReplayLemmas.{ReplaysRows, replays_lines, replays_page}
use Rattle.cli_history.proofs.WalkLemmas.{Walked, looks_on, looks_still, next_none, next_some, walked_all, walked_more, walked_none, walked_out}
use Rattle.cli_history.proofs.replaying.Replayed.of.Goals as goal

pub loop-init : goal.loop-init
loop-init g c = record {
  looks = looks_still g.S.Store c.args.noted.now;
  walked = λ clean (a : Archive) (ls : List (List ℕ)) stands.
      let P = ReplaysRows c.args.purpose c.in_ok-replayed.replayed in
      subst (λ from. Walked P (rows_of ls) from 0) (sym c.all-events.ensures) (walked_none P (rows_of ls) c.in_ok-replayed.ensures);
}

pub loop-preserved : goal.loop-preserved
loop-preserved g c =
    let was = c.loop.invariant in
    record {
      looks = looks_on g.S.Store c.args.noted.now c.loop.noted c.next_page.new.noted was.looks c.next_page.ensures.looks;
      walked = λ clean (a : Archive) (ls : List (List ℕ)) stands.
          let on =
          next_some (rows_of ls) c.loop.events.from c.next_page.new.self.from c.in_ok-page.field-0 c.in-Some.page c.in-Some.is
          (c.in_ok-page.ensures.page clean a ls (was.looks.lines a ls stands)) in
          let does =
          replays_page c.args.purpose c.loop.replayed c.take_page.new.self c.in-Some.page.items (λ (ks : List (List ℕ)) so_far.
          subst (λ (rows : List EventRow). Replays c.args.purpose c.take_page.new.self (ks ++ map (λ (r : EventRow). r.line.items) rows))
          c.as_slice.ensures.value (c.in_ok-take_page.ensures c.args.purpose ks so_far)) in
          walked_more (ReplaysRows c.args.purpose c.loop.replayed) (ReplaysRows c.args.purpose c.take_page.new.self) (rows_of ls)
          c.loop.events.from c.next_page.new.self.from c.loop.counter (map event_of c.in-Some.page.items)
          (was.walked (c.next_page.ensures.looks.falls clean) a ls stands) on does;
    }

pub returns-in_default-clause-replays : goal.returns-in_default-clause-replays
returns-in_default-clause-replays g c = λ clean (a : Archive) (ls : List (List ℕ)) stands.
    let was = c.loop.invariant in
    let none =
    next_none (rows_of ls) c.loop.events.from c.next_page.new.self.from c.in_ok-page.field-0 c.in_default.is
    (c.in_ok-page.ensures.page clean a ls (was.looks.lines a ls stands)) in
    replays_lines c.args.purpose c.loop.replayed ls
    (walked_all (ReplaysRows c.args.purpose c.loop.replayed) (rows_of ls) c.loop.events.from c.loop.counter
    (was.walked (c.next_page.ensures.looks.falls clean) a ls stands) none)

pub returns-clause-replays : goal.returns-clause-replays
returns-clause-replays g c = λ clean (a : Archive) (ls : List (List ℕ)) stands.
    replays_lines c.args.purpose c.loop.replayed ls
    (walked_out (ReplaysRows c.args.purpose c.loop.replayed) (rows_of ls) c.loop.events.from c.loop.counter
    (c.loop.invariant.walked clean a ls stands) (omega arith))
