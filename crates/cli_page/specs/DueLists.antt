-- What a page lists as due, and what it says of each of these records.
use Rattle.std.specs.Prelude.{ℕ, Bool, true, false, not, ◌&&◌, ◌==◌, if◌then◌else◌, List, [], ◌∷◌, ◌++◌, map, flat_map, count_by}
use Rattle.std.specs.Prelude.{length, Option, Some, None, codes, decimal, string_bytes}
use Rattle.jiff.specs.Words.{date_text}
use Rattle.jiff_core.specs.declared.civil.date.Date.{Date}
use Rattle.class_plan.specs.Plans.{Listing, schedule_at}
use Rattle.class_plan.specs.declared.schedules.Action.TheVariants as action
use Rattle.class_plan.specs.declared.schedules.Schedule.{Schedule}
use Rattle.class_plan.specs.declared.schedules.Schedule.TheVariants.{Permanent, After}
use Rattle.cli_texts.specs.Rows.{number_field}
use Rattle.cli_texts.specs.declared.headers.Headers.{Headers}
use Rattle.cli_texts.specs.declared.titles.ListedTitle.{ListedTitle}
use Rattle.cli_page.specs.declared.report.Record.{Record}
use Rattle.cli_page.specs.declared.due_list.Ruling.{Ruling}
use Rattle.cli_page.specs.declared.due_list.Ruling.TheVariants.{Destroy, Review, Transfer}
use Rattle.cli_page.specs.declared.due_list.Item.{Item}
use Rattle.cli_page.specs.Pages.{text_piece, name_piece}
use Rattle.cli_page.specs.Titles.{class_text}

-- WHAT A SCHEDULE SAYS of a record that is due. A record without a period is never due.
abbrev pub ruling_by : Option Schedule → Ruling
ruling_by None = Review
ruling_by (Some Permanent) = Review
ruling_by (Some (After n u action.Destroy y)) = Destroy
ruling_by (Some (After n u action.Review y)) = Review
ruling_by (Some (After n u action.Transfer y)) = Transfer

-- what is listed of a record that is due, but for the texts of its header
pub record DueRecord : Type 0 where
  pub volume : Option ℕ
  pub number : ℕ
  pub path : List ℕ
  pub day : Date
  pub due : Date
  pub ruling : Ruling
  pub holds : List (List ℕ)

abbrev pub due_view : Item → DueRecord
due_view i = record {
  volume = i.volume;
  number = i.number;
  path = i.path.items;
  day = i.day;
  due = i.due;
  ruling = i.ruling;
  holds = map (λ h. h.items) i.holds.items;
}

-- A RECORD AS IT IS LISTED, by the plan
abbrev pub due_record : Listing → Record → Date → DueRecord
due_record plan r due = record {
  volume = r.volume;
  number = r.number;
  path = r.path.now;
  day = r.day;
  due = due;
  ruling = ruling_by (schedule_at plan r.path.now);
  holds = map (λ h. h.items) r.holds.now;
}

abbrev pub is_held : Item → Bool
is_held i = not (length i.holds.items == 0)

abbrev pub destroys : Ruling → Bool
destroys Destroy = true
destroys Review = false
destroys Transfer = false

-- IT MAY BE DESTROYED: its schedule destroys it, and no hold keeps it
abbrev pub is_free : Item → Bool
is_free i = destroys i.ruling && not (is_held i)

-- ---- what a page says of it

-- what the schedule says of its destruction; what the holds say comes behind it
abbrev pub ruling_words : Ruling → (is_held : Bool) → List ℕ
ruling_words Destroy is_held = if is_held then [] else codes "May be destroyed"
ruling_words Review is_held = codes "Not destroyed: its schedule is review. "
ruling_words Transfer is_held = codes "Not destroyed: its schedule is transfer. "

abbrev pub holds_word : (others : ℕ) → List ℕ
holds_word others = if others == 0 then codes "Hold: " else codes "Holds: "

abbrev pub more_names : List (List ℕ) → List ℕ
more_names names = flat_map (λ n. codes ", " ++ name_piece n) names

abbrev pub hold_names : List (List ℕ) → List ℕ
hold_names [] = []
hold_names (n ∷ ns) = holds_word (length ns) ++ name_piece n ++ more_names ns

-- WHAT BARS ITS DESTRUCTION, or that nothing does
abbrev pub bar_words : Item → List ℕ
bar_words i = ruling_words i.ruling (is_held i) ++ hold_names (map (λ h. h.items) i.holds.items)

-- the sender and the subject, where they are known
abbrev pub texts_shown : Option Headers → List ℕ
texts_shown None = []
texts_shown (Some h) = text_piece (string_bytes h.sender) ++ codes "<br>" ++ text_piece (string_bytes h.subject)

abbrev pub row_tag : (is_free : Bool) → List ℕ
row_tag is_free = if is_free then codes "<tr>" else codes "<tr class=\"barred\">"

-- the number of a record, after that of its volume where it has one
unfoldable pub number_head : (volume : Option ℕ) → ℕ → List ℕ
number_head volume n = codes "<th scope=\"row\" class=\"n\">" ++ number_field volume n ++ codes "</th><td>"

unfoldable pub day_cell : Date → List ℕ
day_cell day = codes "</td><td class=\"d\">" ++ date_text day

-- its number, its class with the title, the day of its capture and its due date
unfoldable pub first_cells : List ListedTitle → Item → List ℕ
first_cells titles i = number_head i.volume i.number ++ class_text titles i.path.items ++ day_cell i.day ++ day_cell i.due

-- THE ROW of a record
unfoldable pub row : List ListedTitle → Item → List ℕ
row titles i =
    row_tag (is_free i) ++ first_cells titles i ++ codes "</td><td>" ++ texts_shown i.headers ++ codes "</td><td>" ++ bar_words i
    ++ codes "</td><td class=\"sign\"></td></tr>\n"

-- ---- the section

unfoldable pub free_words : ℕ → List ℕ
free_words n = codes ", of which " ++ decimal n ++ codes " may be destroyed.</p>\n<p>A record may be destroyed from the day on which it is due, that day included.</p>\n"

unfoldable pub counts : List Item → List ℕ
counts items = codes "<p>Records: " ++ decimal (length items) ++ free_words (count_by is_free items)

unfoldable pub table_head : Date → List ℕ
table_head day =
    codes "<table>\n<caption>Live records that are due by " ++ date_text day
    ++ codes ", by number</caption>\n<thead><tr><th scope=\"col\" class=\"n\">Record</th><th scope=\"col\">Class</th><th scope=\"col\">Captured</th><th scope=\"col\">Due</th><th scope=\"col\" class=\"t\">Sender and subject</th><th scope=\"col\">What bars destruction</th><th scope=\"col\" class=\"sign\">Approved (initials)</th></tr></thead>\n<tbody>\n"

unfoldable pub table_end : List ℕ
table_end =
    codes "</tbody>\n</table>\n<div class=\"signature\">\n<p>The destruction of the records that are approved above is authorized by:</p>\n<ul><li>Name</li><li>Function</li><li>Date</li><li>Signature</li></ul>\n</div>\n</section>\n"

-- THE LIST FOR SIGNATURE: how many records are due, how many of these may be destroyed, and a row for each, in their order
unfoldable pub list : List ListedTitle → List Item → Date → List ℕ
list titles [] day = codes "<p>No record is due by this day.</p>\n</section>\n"
list titles (i ∷ is) day = counts (i ∷ is) ++ table_head day ++ flat_map (row titles) (i ∷ is) ++ table_end

unfoldable pub section_head : Date → List ℕ
section_head day =
    codes "<section aria-labelledby=\"due\" class=\"due\">\n<h2 id=\"due\">Due by " ++ date_text day ++ codes ", for signature</h2>\n"
