use Rattle.std.proofs.Common.{codes}
use Rattle.jiff.specs.Words.{date_text}
use Rattle.cli_page.specs.Pages.{text_piece}
use Rattle.cli_page.specs.Reports.{subject_facts}
use Rattle.cli_page.proofs.PushLemmas.{pushed_7}
use Rattle.cli_page.proofs.summary.push_subject.Goals as goal

pub returns : goal.returns
unfolding subject_facts
returns c =
    let about = c.args.heading.now in
    pushed_7 c.args.page.now c.markup.new.self c.date.new.self c.markup-2.new.self c.text.new.self c.markup-3.new.self c.text-2.new.self
    c.markup-4.new.self (codes "<body>\n<header>\n<h1>Disposal report by ") (date_text about.day)
    (codes "</h1>\n<dl class=\"facts\">\n<dt>Store</dt><dd>") (text_piece about.file.now) (codes "</dd>\n<dt>Made</dt><dd>")
    (text_piece about.moment.now) (codes "</dd>\n") c.in_ok-markup.ensures c.in_ok-date.ensures c.in_ok-markup-2.ensures
    c.in_ok-text.ensures c.in_ok-markup-3.ensures c.in_ok-text-2.ensures c.in_ok-markup-4.ensures
