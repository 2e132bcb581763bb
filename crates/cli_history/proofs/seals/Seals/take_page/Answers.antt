use Rattle.std.proofs.Common.{◌≡◌, ◌<◌, ◌≤◌, List, arith, get_or, length, rules, subst}
use Rattle.record_tables.specs.Events.{Event as Row}
use Rattle.record_reads.specs.Events.{event_of}
use Rattle.record_reads.specs.declared.events.EventRow.{EventRow}
use Rattle.cli_history.specs.OneSeal.{TakesSeal}
use Rattle.cli_history.specs.Tellings.{TakesRow}
use Rattle.cli_history.proofs.OneSealLemmas.{seal_none, seal_page, seal_whole}
use Rattle.cli_history.proofs.TellingLemmas.{told_none, told_page, told_whole}
use Rattle.cli_history.proofs.seals.Seals.take_page.Goals as goal

pub loop-row-init : goal.loop-row-init
loop-row-init c = record {
  told = λ only (rows : List Row) told. told_none c.args.self.now rows c.args.page.now told;
  seal = λ message enough (rows : List Row) is. seal_none message c.args.self.now rows c.args.page.now is;
}

pub loop-row-preserved : goal.loop-row-preserved
loop-row-preserved c =
    let page = c.args.page.now in
    let i = c.loop-row.row-index in
    let row = c.row-item.result in
    let old = c.loop-row.self in
    let new = c.take_asked.new.self in
    let same : row ≡ get_or page i row = search (rules, arith) in
    let low : i < length page = omega arith in
    record {
      told = λ only (rows : List Row) told.
          told_page old new rows page i row low (c.loop-row.invariant.told only rows told)
          (subst (λ (r : EventRow). TakesRow (event_of r) old new) same (c.in_ok-take_asked.ensures.takes only));
      seal = λ message enough (rows : List Row) is.
          seal_page message old new rows page i row low (c.loop-row.invariant.seal message enough rows is)
          (subst (λ (r : EventRow). TakesSeal message (event_of r) old new) same (c.in_ok-take_asked.ensures.seal message enough));
    }

pub returns-clause-told : goal.returns-clause-told
returns-clause-told c = λ only (rows : List Row) told.
    let page = c.args.page.now in
    let all : length page ≤ c.loop-row.row-index = omega arith in
    told_whole c.loop-row.self rows page c.loop-row.row-index all (c.loop-row.invariant.told only rows told)

pub returns-clause-seal : goal.returns-clause-seal
returns-clause-seal c = λ message enough (rows : List Row) is.
    let page = c.args.page.now in
    let all : length page ≤ c.loop-row.row-index = omega arith in
    seal_whole message c.loop-row.self rows page c.loop-row.row-index all (c.loop-row.invariant.seal message enough rows is)
