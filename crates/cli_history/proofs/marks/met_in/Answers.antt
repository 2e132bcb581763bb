use Rattle.std.proofs.Common.{◌≡◌, ◌<◌, ◌≤◌, ◌++◌, ◌∷◌, [], List, arith, get_or, length, map, rules, subst, take}
use Rattle.record_tables.specs.Events.{Event as Row}
use Rattle.record_reads.specs.Events.{event_of}
use Rattle.record_reads.specs.declared.events.EventRow.{EventRow}
use Rattle.cli_history.specs.Judgements.{IsMet}
use Rattle.cli_history.proofs.MarkLemmas.{met_more}
use Rattle.cli_history.proofs.WalkLemmas.{all_of_page, more_of_page, none_of_page}
use Rattle.cli_history.proofs.marks.met_in.Goals as goal

pub loop-row-init : goal.loop-row-init
loop-row-init c = λ (rows : List Row) met. none_of_page (IsMet c.args.front.now c.args.before) event_of rows c.args.page.now met

pub loop-row-preserved : goal.loop-row-preserved
loop-row-preserved c = λ (rows : List Row) met.
    let page = c.args.page.now in
    let i = c.loop-row.row-index in
    let row = c.row-item.result in
    let is = IsMet c.args.front.now c.met_at-met.result in
    let same : row ≡ get_or page i row = search (rules, arith) in
    let low : i < length page = omega arith in
    more_of_page is event_of rows page i row low
    (subst (λ (r : EventRow). is ((rows ++ map event_of (take i page)) ++ event_of r ∷ [])) same
    (met_more c.args.front.now row c.loop-row.met c.met_at-met.result (rows ++ map event_of (take i page)) c.met_at-met.ensures
    (c.loop-row.invariant rows met)))

pub returns : goal.returns
returns c = λ (rows : List Row) met.
    let page = c.args.page.now in
    let all : length page ≤ c.loop-row.row-index = omega arith in
    all_of_page (IsMet c.args.front.now c.loop-row.met) event_of rows page c.loop-row.row-index all (c.loop-row.invariant rows met)
