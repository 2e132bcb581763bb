use Rattle.std.proofs.Common.{◌++◌, ◌∙◌, ap, append_assoc, refl}
use Rattle.cli_page.specs.DueLists.{list, section_head}
use Rattle.cli_page.specs.KeptNumbers.{holds_section}
use Rattle.cli_page.specs.Reports.{classes_text, free_of, heading_text, report_end, totals_text}
use Rattle.cli_page.proofs.PushLemmas.{pushed_7}
use Rattle.cli_page.proofs.report.Report.write.Goals as goal

pub returns : goal.returns
returns c =
    let r = c.args.self.now in
    let about = c.args.about.now in
    let plan = c.args.plan.now in
    let timeline = c.in_ok-timeline.ensures in
    let totals = c.in_ok-totals.ensures ∙ ap (λ free. c.heading.new.page ++ totals_text about r.tally.all free) c.free_count.ensures in
    let listed = list about.titles.now r.due.items.items r.day in
    let due = section_head r.day ++ listed in
    let due_pushed = c.in_ok-section-2.ensures ∙ append_assoc c.section.new.page (section_head r.day) listed in
    let text = heading_text about ++ totals_text about r.tally.all (free_of r) ++ classes_text plan r.tally about ++ timeline.0
    ++ holds_section r.holds.holds.entries ++ due ++ report_end in (
      text,
      record { timeline = timeline.0; timed = timeline.1; is = refl },
      pushed_7 c.args.page.now c.heading.new.page c.totals.new.page c.classes.new.page c.timeline.new.page c.section.new.page
          c.section-2.new.page c.push_end.new.page (heading_text about) (totals_text about r.tally.all (free_of r))
          (classes_text plan r.tally about) timeline.0 (holds_section r.holds.holds.entries) due report_end
          c.in_ok-heading.ensures totals c.in_ok-classes.ensures timeline.2 c.in_ok-section.ensures due_pushed
          c.in_ok-push_end.ensures,
    )
