-- Examples of the definitions.
use Rattle.std.specs.Fmt.{digits}
use Rattle.std.proofs.Common.{◌≡◌, ◌∷◌, ◌++◌, ℕ, List, [], codes, map, refl, false, true, Option, Some, None}
use Rattle.jiff_core.specs.declared.civil.date.Date.{Date}
use Rattle.cli_page.specs.Marks.{read_all}
use Rattle.class_plan.specs.declared.schedules.Action.TheVariants as action
use Rattle.class_plan.specs.declared.schedules.Schedule.TheVariants.{After}
use Rattle.class_plan.specs.declared.schedules.Unit.TheVariants.{Years}
use Rattle.cli_page.specs.DueLists.{number_head, ruling_by, ruling_words}
use Rattle.cli_page.specs.declared.due_list.Ruling.TheVariants as ruling
use Rattle.cli_page.specs.KeptNumbers.{dash, is_same_volume, numbers_of, stretch_text}
use Rattle.cli_page.specs.declared.holds.Stretch.{Stretch}
use Rattle.cli_page.specs.Indexes.{condition_words, due_words, history_link, history_links, last_moment, letter_cells, moment_key, order_words}
use Rattle.cli_page.specs.Names.{file_name}
use Rattle.cli_page.specs.Timelines.{no_dates, timeline_head, timeline_of, total_shown, years_words}
use Rattle.cli_page.specs.declared.index.Order.TheVariants.{Sender}
use Rattle.cli_page.specs.Columns.{no_year, breadth_of, span_of, no_column, columns_from, columns_of}

-- one year with records, 1971
one_column : columns_of (no_year ∷ record { due = 1; later = 2 } ∷ no_year ∷ []) ≡ record { from = 1971; years = 1; due = 1; later = 2 } ∷ []
one_column = refl

two_years : breadth_of (no_year ∷ record { due = 1; later = 2 } ∷ record { due = 0; later = 1 } ∷ no_year ∷ []) ≡ 2
two_years = refl

no_breadth : breadth_of (no_year ∷ no_year ∷ []) ≡ 0
no_breadth = refl

forty_years : span_of 40 ≡ 2
forty_years = refl

-- the last column has a year less
in_twos : columns_from 2 (no_column 1970) (record { due = 1; later = 0 } ∷ record { due = 2; later = 1 } ∷ record { due = 0; later = 5 } ∷ [])
    ≡ record { from = 1970; years = 2; due = 3; later = 1 } ∷ record { from = 1972; years = 1; due = 0; later = 5 } ∷ []
in_twos = refl

-- a name between quotation marks is read as the same name without them
without_its_marks : read_all (codes "\"Lee, Ann\" <ann@example.org>") ≡ codes "Lee, Ann <ann@example.org>"
without_its_marks = refl

as_it_is : read_all (codes "O'Neil") ≡ codes "O'Neil"
as_it_is = refl

-- seven years, and then a review
review_after_seven_years : ruling_by (Some (After 7 Years action.Review false)) ≡ ruling.Review
review_after_seven_years = refl

its_words : ruling_words ruling.Review false ≡ codes "Not destroyed: its schedule is review. "
its_words = refl

free : ruling_words (ruling_by (Some (After 7 Years action.Destroy false))) false ≡ codes "May be destroyed"
free = refl

abbrev stretch : Option ℕ → ℕ → ℕ → Stretch
stretch v n more = record { volume = v; first = n; more = more }

-- two records apart
one_and_seven : numbers_of (stretch None 1 0 ∷ stretch None 7 0 ∷ []) ≡ (None, 1) ∷ (None, 7) ∷ []
one_and_seven = refl

-- three records of a volume
five_to_seven : numbers_of (stretch (Some 3) 5 2 ∷ []) ≡ (Some 3, 5) ∷ (Some 3, 6) ∷ (Some 3, 7) ∷ []
five_to_seven = refl

their_texts : map stretch_text (stretch None 7 0 ∷ stretch (Some 3) 7 0 ∷ stretch (Some 3) 5 2 ∷ [])
    ≡ codes "7" ∷ codes "3/7" ∷ (codes "3/5" ++ dash ++ codes "7") ∷ []
unfolding digits
their_texts = refl

-- no stretch goes on in another volume
in_one_volume : map (is_same_volume (Some 3)) (Some 3 ∷ Some 4 ∷ None ∷ []) ≡ true ∷ false ∷ false ∷ []
in_one_volume = refl

-- ---- the index of an export

destroyed_without_a_due_date : (due : Date) → due_words true (Some due) ≡ codes "destroyed"
destroyed_without_a_due_date due = refl

never_due : due_words false None ≡ codes "never"
never_due = refl

-- a message that was altered has no link
not_exported : letter_cells None false None ≡ codes "<td></td><td></td><td></td><td>message altered, not exported</td></tr>\n"
not_exported = refl

of_all_records : condition_words None ≡ codes "none: all records of the store"
of_all_records = refl

without_a_history : history_links [] ≡ []
without_a_history = refl

with_a_history : history_links (None ∷ []) ≡ codes " <a href=\"history.txt\">history.txt</a> has the events of the records."
unfolding history_link
with_a_history = refl

-- those of two volumes
with_two_histories : history_links (Some 3 ∷ Some 12 ∷ [])
    ≡ codes " <a href=\"history-3.txt\">history-3.txt</a>, <a href=\"history-12.txt\">history-12.txt</a> have the events of the records."
unfolding history_link digits
with_two_histories = refl

names_of_files : file_name None 17 ∷ file_name (Some 3) 17 ∷ [] ≡ codes "17.eml" ∷ codes "3-17.eml" ∷ []
unfolding digits
names_of_files = refl

number_of_a_volume : number_head (Some 3) 17 ≡ codes "<th scope=\"row\" class=\"n\">3/17</th><td>"
unfolding number_head digits
number_of_a_volume = refl

in_order_of_senders : order_words Sender ≡ codes "by sender"
in_order_of_senders = refl

-- what has no date comes last
dated_last : moment_key None ≡ last_moment
dated_last = refl

-- ---- when records fall due

its_year : years_words (record { from = 1971; years = 1; due = 1; later = 2 }) ≡ codes "1971"
unfolding digits
its_year = refl

its_years : years_words (record { from = 1970; years = 2; due = 3; later = 1 }) ≡ codes "1970 to 1971"
unfolding digits
its_years = refl

by_the_day_and_later : total_shown (record { from = 1970; years = 2; due = 3; later = 1 }) ≡ 4
by_the_day_and_later = refl

-- nothing is drawn where no live record has a due date
nothing_drawn : (drawing : List ℕ) (day : Date) → timeline_of drawing [] 0 day ≡ timeline_head ++ no_dates
nothing_drawn drawing day = refl
