use Rattle.std.proofs.Common.{codes}
use Rattle.jiff.specs.Words.{date_text}
use Rattle.cli_page.specs.Pages.{text_piece}
use Rattle.cli_page.specs.Reports.{report_title}
use Rattle.cli_page.proofs.PushLemmas.{pushed_4}
use Rattle.cli_page.proofs.summary.push_title.Goals as goal

pub returns : goal.returns
unfolding report_title
returns c =
    let about = c.args.heading.now in
    pushed_4 c.args.page.now c.markup.new.self c.date.new.self c.markup-2.new.self c.text.new.self (codes "Disposal report by ")
    (date_text about.day) (codes ": ") (text_piece about.file.now) c.in_ok-markup.ensures c.in_ok-date.ensures c.in_ok-markup-2.ensures
    c.in_ok-text.ensures
