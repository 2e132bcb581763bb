use Rattle.std.proofs.Common.{◌≡◌, ◌++◌, List, map, take}
use Rattle.record_tables.specs.Events.{Event as Row}
use Rattle.record_reads.specs.Events.{event_of}
use Rattle.cli_history.specs.Judgements.{IsJudged}
use Rattle.cli_history.proofs.judging.Judgement.judge_page.Given as goal

abbrev pub invariant-loop-row : goal.invariant-loop-row
invariant-loop-row l = record {
  judged : (rows : List Row) → IsJudged l.fn.self rows → IsJudged l.self (rows ++ map event_of (take l.row-index l.page));
  head : l.self.head ≡ l.fn.self.head;
}
