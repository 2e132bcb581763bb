-- When live records fall due: a table of columns, and a drawing of them.
use Rattle.std.specs.Prelude.{◌≡◌, ℕ, ◌+◌, ◌-◌, ◌^◌, ◌==◌, min, nat_lt, if◌then◌else◌, List, [], ◌++◌, flat_map, length, codes, decimal}
use Rattle.jiff_core.specs.declared.civil.date.Date.{Date}
use Rattle.cli_page.specs.Columns.{in_column, columns_of}
use Rattle.cli_page.specs.Pages.{number_cell_piece, time_piece}
use Rattle.cli_page.specs.declared.tally.Tally.{Tally}
use Rattle.cli_page.specs.declared.years.Column.{Column}

-- the years of a column: one, or the first and the last of them
abbrev pub years_words : Column → List ℕ
years_words c = decimal c.from ++ (if nat_lt 1 c.years then codes " to " ++ decimal (c.from + (c.years - 1)) else [])

-- all records of a column, up to 2^64 - 1
abbrev pub total_shown : Column → ℕ
total_shown c = min (in_column c) (2 ^ 64 - 1)

unfoldable pub row_head : Column → List ℕ
row_head c = codes "<tr><th scope=\"row\">" ++ years_words c ++ codes "</th>"

unfoldable pub row_cells : Column → List ℕ
row_cells c = number_cell_piece c.due ++ number_cell_piece c.later ++ number_cell_piece (total_shown c) ++ codes "</tr>\n"

-- THE ROW OF A COLUMN: its years, and how many live records fall due in them by the day, later, and in all
abbrev pub column_row : Column → List ℕ
column_row c = row_head c ++ row_cells c

unfoldable pub columns_head : Date → List ℕ
columns_head day =
    codes "<table>\n<caption>Live records by the years in which they fall due; years without any are left out</caption>\n<thead><tr><th scope=\"col\">Due in</th><th scope=\"col\" class=\"n\">By "
    ++ time_piece day
    ++ codes "</th><th scope=\"col\" class=\"n\">Later</th><th scope=\"col\" class=\"n\">All</th></tr></thead>\n<tbody>\n"

unfoldable pub columns_end : (dated : ℕ) → List ℕ
columns_end dated =
    codes "</tbody>\n<tfoot><tr><th scope=\"row\" colspan=\"3\">Live records with a due date</th>" ++ number_cell_piece dated
    ++ codes "</tr></tfoot>\n</table>\n"

-- THE TABLE: a row for each column, in their order, and the number of all live records with a due date
abbrev pub columns_table : List Column → (dated : ℕ) → Date → List ℕ
columns_table columns dated day = columns_head day ++ flat_map column_row columns ++ columns_end dated

unfoldable pub timeline_head : List ℕ
timeline_head = codes "<section aria-labelledby=\"when\">\n<h2 id=\"when\">When records fall due</h2>\n"

unfoldable pub no_dates : List ℕ
no_dates = codes "<p>No live record has a due date.</p>\n</section>\n"

unfoldable pub timeline_end : List ℕ
timeline_end = codes "</section>\n"

abbrev pub timeline_of : (drawing : List ℕ) → List Column → (dated : ℕ) → Date → List ℕ
timeline_of drawing columns dated day =
    timeline_head ++ (if length columns == 0 then no_dates else drawing ++ columns_table columns dated day ++ timeline_end)

-- THE SECTION OF DUE DATES: some drawing, and the table of the columns
pub record IsTimeline (tally : Tally) (day : Date) (text : List ℕ) : Type 0 where
  pub drawing : List ℕ
  pub is : text ≡ timeline_of drawing (columns_of tally.years.years.items) tally.all.dated day
