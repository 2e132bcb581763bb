use Rattle.std.proofs.Common.{codes, decimal}
use Rattle.cli_page.specs.Pages.{time_piece}
use Rattle.cli_page.specs.Reports.{due_facts}
use Rattle.cli_page.proofs.PushLemmas.{pushed_7}
use Rattle.cli_page.proofs.summary.push_due.Goals as goal

pub returns : goal.returns
unfolding due_facts
returns c =
    pushed_7 c.args.page.now c.markup.new.self c.time.new.self c.markup-2.new.self c.number.new.self c.markup-3.new.self
    c.number-2.new.self c.markup-4.new.self (codes "<dt>Due by ") (time_piece c.args.day) (codes "</dt><dd>") (decimal c.args.due)
    (codes ", of which ") (decimal c.args.free) (codes " may be destroyed</dd>\n</dl>\n</header>\n") c.in_ok-markup.ensures
    c.in_ok-time.ensures c.in_ok-markup-2.ensures c.in_ok-number.ensures c.in_ok-markup-3.ensures c.in_ok-number-2.ensures
    c.in_ok-markup-4.ensures
