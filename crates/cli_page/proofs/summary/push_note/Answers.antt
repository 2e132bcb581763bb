use Rattle.std.proofs.Common.{codes}
use Rattle.jiff.specs.Words.{date_text}
use Rattle.cli_page.specs.Reports.{forecast_note}
use Rattle.cli_page.proofs.PushLemmas.{pushed_4}
use Rattle.cli_page.proofs.summary.push_note.Goals as goal

pub returns : goal.returns
unfolding forecast_note
returns c =
    pushed_4 c.args.page.now c.markup.new.self c.date.new.self c.markup-2.new.self c.markup-3.new.self
    (codes "<p class=\"note\"><strong>This is a forecast.</strong> ") (date_text c.args.day)
    (codes " has not come yet. Until then records may be captured, held, released and destroyed, and the plan may be replaced. ")
    (codes "No record can be destroyed before it is due.</p>\n")
    c.in_ok-markup.ensures c.in_ok-date.ensures c.in_ok-markup-2.ensures c.in_ok-markup-3.ensures
