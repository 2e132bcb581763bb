use Rattle.std.proofs.Common.{◌≡◌, ◌∙◌, ◌<◌, ◌++◌, ◌∷◌, [], List, arith, get_or, length, map, rules, subst, take}
use Rattle.record_tables.specs.Events.{Event as Row}
use Rattle.record_reads.specs.Events.{event_of}
use Rattle.record_reads.specs.declared.events.EventRow.{EventRow}
use Rattle.cli_history.specs.Judgements.{IsJudged}
use Rattle.cli_history.proofs.JudgementLemmas.{judged_more}
use Rattle.cli_history.proofs.judging.Judgement.judge_page.Goals as goal

pub loop-row-preserved : goal.loop-row-preserved
loop-row-preserved c =
    let page = c.args.page.now in
    let i = c.loop-row.row-index in
    let row = c.row-item.result in
    let new = c.judge_row.new.self in
    let same : row ≡ get_or page i row = search (rules, arith) in
    let low : i < length page = omega arith in
    record {
      judged = λ (rows : List Row) judged.
          judged_more new rows page i row low
          (subst (λ (r : EventRow). IsJudged new ((rows ++ map event_of (take i page)) ++ event_of r ∷ [])) same
          (c.in_ok-judge_row.ensures.judged (rows ++ map event_of (take i page)) (c.loop-row.invariant.judged rows judged)));
      head = c.in_ok-judge_row.ensures.head ∙ c.loop-row.invariant.head;
    }
