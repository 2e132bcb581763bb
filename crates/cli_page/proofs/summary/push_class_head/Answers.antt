use Rattle.std.proofs.Common.{codes}
use Rattle.cli_page.specs.Pages.{time_piece}
use Rattle.cli_page.specs.Reports.{class_head}
use Rattle.cli_page.proofs.PushLemmas.{pushed_8}
use Rattle.cli_page.proofs.summary.push_class_head.Goals as goal

pub returns : goal.returns
unfolding class_head
returns c =
    pushed_8 c.args.page.now c.markup.new.self c.markup-2.new.self c.markup-3.new.self c.markup-4.new.self c.markup-5.new.self
    c.markup-6.new.self c.time.new.self c.markup-7.new.self
    (codes "<section aria-labelledby=\"classes\">\n<h2 id=\"classes\">Classes</h2>\n<table>\n")
    (codes "<caption>Each class with its schedule, its own or that of the class above it, and its records. ")
    (codes "Held and due ones are live.</caption>\n")
    (codes "<thead><tr><th scope=\"col\" class=\"p\">Class</th><th scope=\"col\">Schedule</th><th scope=\"col\">Open</th>")
    (codes "<th scope=\"col\" class=\"n\">Records</th><th scope=\"col\" class=\"n\">Live</th><th scope=\"col\" class=\"n\">Held</th>")
    (codes "<th scope=\"col\" class=\"n\">Destroyed</th><th scope=\"col\" class=\"n\">Due by ") (time_piece c.args.day)
    (codes "</th></tr></thead>\n<tbody>\n") c.in_ok-markup.ensures c.in_ok-markup-2.ensures c.in_ok-markup-3.ensures
    c.in_ok-markup-4.ensures c.in_ok-markup-5.ensures c.in_ok-markup-6.ensures c.in_ok-time.ensures c.in_ok-markup-7.ensures
