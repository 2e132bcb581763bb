use Rattle.std.proofs.Common.{codes, decimal}
use Rattle.cli_page.specs.Reports.{record_facts}
use Rattle.cli_page.proofs.PushLemmas.{pushed_7}
use Rattle.cli_page.proofs.summary.push_records.Goals as goal

pub returns : goal.returns
unfolding record_facts
returns c =
    let all = c.args.all.now in
    pushed_7 c.args.page.now c.markup.new.self c.number.new.self c.markup-2.new.self c.number-2.new.self c.markup-3.new.self
    c.number-3.new.self c.markup-4.new.self (codes "<dt>Records</dt><dd>") (decimal all.records) (codes ": ") (decimal all.live)
    (codes " live, ") (decimal all.destroyed) (codes " destroyed</dd>\n") c.in_ok-markup.ensures c.in_ok-number.ensures
    c.in_ok-markup-2.ensures c.in_ok-number-2.ensures c.in_ok-markup-3.ensures c.in_ok-number-3.ensures c.in_ok-markup-4.ensures
