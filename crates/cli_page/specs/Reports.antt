-- A report: what it is about, its classes with their counts, when records fall due, what holds keep, and what is due.
use Rattle.std.specs.Prelude.{◌≡◌, ℕ, Bool, if◌then◌else◌, List, [], ◌++◌, count_by, flat_map, Option, Some, None, option_map, codes, decimal}
use Rattle.std.specs.Prelude.{int_le}
use Rattle.jiff.specs.Words.{date_text, epoch_day}
use Rattle.jiff_core.specs.declared.civil.date.Date.{Date}
use Rattle.class_plan.specs.Plans.{Listing, is_open_in, schedule_at}
use Rattle.class_plan.specs.Texts.{text_of}
use Rattle.class_plan.specs.declared.schedules.Schedule.{Schedule}
use Rattle.cli_texts.specs.declared.titles.ListedTitle.{ListedTitle}
use Rattle.cli_page.specs.declared.counts.Counts.{Counts}
use Rattle.cli_page.specs.declared.report.Heading.{Heading}
use Rattle.cli_page.specs.declared.report.Report.{Report}
use Rattle.cli_page.specs.declared.tally.ClassCounts.{ClassCounts}
use Rattle.cli_page.specs.declared.tally.Tally.{Tally}
use Rattle.cli_page.specs.DueLists.{is_free, list, section_head}
use Rattle.cli_page.specs.Heads.{head_end, head_start}
use Rattle.cli_page.specs.KeptNumbers.{holds_section}
use Rattle.cli_page.specs.Pages.{name_piece, number_cell_piece, text_piece, time_piece}
use Rattle.cli_page.specs.Timelines.{IsTimeline}
use Rattle.cli_page.specs.Titles.{below, path_and_title, title_in}

-- ---- what it is about

unfoldable pub report_title : Heading → List ℕ
report_title about = codes "Disposal report by " ++ date_text about.day ++ codes ": " ++ text_piece about.file.now

abbrev pub report_head : Heading → List ℕ
report_head about = head_start ++ report_title about ++ head_end

unfoldable pub subject_facts : Heading → List ℕ
subject_facts about =
    codes "<body>\n<header>\n<h1>Disposal report by " ++ date_text about.day
    ++ codes "</h1>\n<dl class=\"facts\">\n<dt>Store</dt><dd>" ++ text_piece about.file.now
    ++ codes "</dd>\n<dt>Made</dt><dd>" ++ text_piece about.moment.now ++ codes "</dd>\n"

unfoldable pub condition_fact : List ℕ → List ℕ
condition_fact conditions = codes "<dt>Only records with</dt><dd>" ++ text_piece conditions ++ codes "</dd>\n"

abbrev pub condition_facts : Option (List ℕ) → List ℕ
condition_facts None = []
condition_facts (Some conditions) = condition_fact conditions

abbrev pub heading_text : Heading → List ℕ
heading_text about = report_head about ++ subject_facts about ++ condition_facts (option_map (λ c. c.now) about.conditions)

-- ---- how many records there are

unfoldable pub record_facts : Counts → List ℕ
record_facts all =
    codes "<dt>Records</dt><dd>" ++ decimal all.records ++ codes ": " ++ decimal all.live ++ codes " live, " ++ decimal all.destroyed
    ++ codes " destroyed</dd>\n"

unfoldable pub hold_facts : Counts → List ℕ
hold_facts all = codes "<dt>On hold</dt><dd>" ++ decimal all.held ++ codes "</dd>\n"

-- how many are due by the day, and how many of these may be destroyed
unfoldable pub due_facts : Date → (due free : ℕ) → List ℕ
due_facts day due free =
    codes "<dt>Due by " ++ time_piece day ++ codes "</dt><dd>" ++ decimal due ++ codes ", of which " ++ decimal free
    ++ codes " may be destroyed</dd>\n</dl>\n</header>\n"

unfoldable pub forecast_note : Date → List ℕ
forecast_note day =
    codes "<p class=\"note\"><strong>This is a forecast.</strong> " ++ date_text day
    ++ codes " has not come yet. Until then records may be captured, held, released and destroyed, and the plan may be replaced. "
    ++ codes "No record can be destroyed before it is due.</p>\n"

-- where the day has not come by the day on which the report is made, it says so
abbrev pub forecast : (day today : Date) → List ℕ
forecast day today = if int_le (epoch_day day) (epoch_day today) then [] else forecast_note day

abbrev pub totals_text : Heading → Counts → (free : ℕ) → List ℕ
totals_text about all free =
    record_facts all ++ hold_facts all ++ due_facts about.day all.due free ++ forecast about.day about.today ++ codes "<main>\n"

-- ---- its classes

unfoldable pub class_head : Date → List ℕ
class_head day =
    codes "<section aria-labelledby=\"classes\">\n<h2 id=\"classes\">Classes</h2>\n<table>\n"
    ++ codes "<caption>Each class with its schedule, its own or that of the class above it, and its records. "
    ++ codes "Held and due ones are live.</caption>\n"
    ++ codes "<thead><tr><th scope=\"col\" class=\"p\">Class</th><th scope=\"col\">Schedule</th><th scope=\"col\">Open</th>"
    ++ codes "<th scope=\"col\" class=\"n\">Records</th><th scope=\"col\" class=\"n\">Live</th><th scope=\"col\" class=\"n\">Held</th>"
    ++ codes "<th scope=\"col\" class=\"n\">Destroyed</th><th scope=\"col\" class=\"n\">Due by " ++ time_piece day
    ++ codes "</th></tr></thead>\n<tbody>\n"

unfoldable pub count_cells : Counts → List ℕ
count_cells c =
    number_cell_piece c.records ++ number_cell_piece c.live ++ number_cell_piece c.held ++ number_cell_piece c.destroyed
    ++ number_cell_piece c.due

abbrev pub schedule_words : Option Schedule → List ℕ
schedule_words None = []
schedule_words (Some s) = name_piece (text_of s)

abbrev pub basis_below : Option ListedTitle → List ℕ
basis_below None = []
basis_below (Some t) = below t.basis.now

abbrev pub open_word : Bool → List ℕ
open_word is_open = if is_open then codes "yes" else codes "no"

unfoldable pub class_cell : (path : List ℕ) → Option ListedTitle → List ℕ
class_cell path title = codes "<tr><th scope=\"row\">" ++ path_and_title path title ++ codes "</th>"

-- the schedule of a class with its legal basis, and whether it is open
unfoldable pub plan_cells : Listing → (path : List ℕ) → Option ListedTitle → List ℕ
plan_cells plan path title =
    codes "<td>" ++ schedule_words (schedule_at plan path) ++ basis_below title ++ codes "</td><td>" ++ open_word (is_open_in plan path)
    ++ codes "</td>"

-- THE ROW OF A CLASS
abbrev pub class_row : Listing → List ListedTitle → ClassCounts → List ℕ
class_row plan titles class =
    class_cell class.path.items (title_in titles class.path.items) ++ plan_cells plan class.path.items (title_in titles class.path.items)
    ++ count_cells class.counts ++ codes "</tr>\n"

unfoldable pub class_foot : Counts → List ℕ
class_foot all =
    codes "</tbody>\n<tfoot><tr><th scope=\"row\" colspan=\"3\">All classes</th>" ++ count_cells all
    ++ codes "</tr></tfoot>\n</table>\n</section>\n"

-- THE SECTION OF CLASSES: a row for each, in their order, and all together
abbrev pub classes_text : Listing → Tally → Heading → List ℕ
classes_text plan tally about =
    class_head about.day ++ flat_map (class_row plan about.titles.now) tally.classes.items ++ class_foot tally.all

-- ---- the whole report

unfoldable pub report_end : List ℕ
report_end = codes "</main>\n<footer>Made by mailfile-store report. Days are those of UTC.</footer>\n</body>\n</html>\n"

abbrev pub free_of : Report → ℕ
free_of r = count_by is_free r.due.items.items

-- THE REPORT for a heading: what it is about and how many records there are, its classes, when records fall due, what holds keep, and
-- what is due, for signature
pub record IsReport (plan : Listing) (about : Heading) (r : Report) (text : List ℕ) : Type 0 where
  pub timeline : List ℕ
  pub timed : IsTimeline r.tally r.day timeline
  pub is : text ≡ heading_text about ++ totals_text about r.tally.all (free_of r) ++ classes_text plan r.tally about ++ timeline
      ++ holds_section r.holds.holds.entries ++ (section_head r.day ++ list about.titles.now r.due.items.items r.day) ++ report_end
