use Rattle.std.proofs.Common.{◌≡◌, ◌<◌, ◌≤◌, ◌∷◌, [], arith, get_or, length, rules, subst}
use Rattle.record_reads.specs.Events.{event_of}
use Rattle.record_reads.specs.declared.events.EventRow.{EventRow}
use Rattle.cli_history.specs.Certified.{Certifies}
use Rattle.cli_history.proofs.CertificateLaws.{none_certified, page_all, page_more}
use Rattle.cli_history.proofs.WalkLemmas.{looks_on, looks_still}
use Rattle.cli_history.proofs.certificates.PrintedCertificates.print_page.Goals as goal

pub loop-row-init : goal.loop-row-init
loop-row-init g c = record {
  looks = looks_still g.S.Store c.args.noted.now;
  certified = none_certified g.K.Sink.written c.args.self.now c.args.sink.now;
}

pub loop-row-preserved : goal.loop-row-preserved
loop-row-preserved g c =
    let written = g.K.Sink.written in
    let was = c.loop-row.invariant in
    let page = c.args.page.now in
    let i = c.loop-row.row-index in
    let row = c.row-item.result in
    let same : row ≡ get_or page i row = search (rules, arith) in
    let low : i < length page = omega arith in
    record {
      looks = looks_on g.S.Store c.args.noted.now c.loop-row.noted c.print_row.new.noted was.looks c.print_row.ensures.looks;
      certified = page_more written c.args.self.now c.loop-row.self c.print_row.new.self c.args.sink.now c.loop-row.sink c.print_row.new.sink page
          i row low was.certified
          (subst (λ (r : EventRow). Certifies written c.loop-row.self c.loop-row.sink (event_of r ∷ []) c.print_row.new.self c.print_row.new.sink)
          same c.in_ok-print_row.ensures.certified);
    }

pub returns-clause-certified : goal.returns-clause-certified
returns-clause-certified g c =
    let page = c.args.page.now in
    let all : length page ≤ c.loop-row.row-index = omega arith in
    page_all g.K.Sink.written c.args.self.now c.loop-row.self c.args.sink.now c.loop-row.sink page c.loop-row.row-index all
    c.loop-row.invariant.certified
