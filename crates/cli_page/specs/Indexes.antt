-- The index of an export: a row for each record.
use Rattle.std.specs.Prelude.{◌≡◌, ◌==◌, ◌-◌, ◌^◌, ℕ, ℤ, pos, Bool, true, false, if◌then◌else◌, List, [], ◌∷◌, ◌++◌, map, flat_map, length}
use Rattle.std.specs.Prelude.{Option, Some, None, is_some, option_map, unwrap_or, codes, decimal, string_bytes, chars}
use Rattle.std.specs.List.Sorted.{IsPermutation, IsSortedBy, IsStableBy}
use Rattle.std.specs.Cmp.Lexicographic.{slice_cmp}
use Rattle.std.specs.Ordering.{int_cmp, nat_cmp, is_lt}
use Rattle.std.specs.Str.{encode_utf8_all}
use Rattle.jiff.specs.Words.{date_text}
use Rattle.jiff_core.specs.declared.civil.date.Date.{Date}
use Rattle.mail_display.specs.Folding.{folded}
use Rattle.cli_texts.specs.Cuts.{cut_octets}
use Rattle.cli_texts.specs.declared.headers.Headers.{Headers}
use Rattle.cli_page.specs.declared.index.IndexHeading.{IndexHeading}
use Rattle.cli_page.specs.declared.index.Letter.{Letter}
use Rattle.cli_page.specs.declared.index.Order.{Order}
use Rattle.cli_page.specs.declared.index.Order.TheVariants.{Number, Date as ByDate, Sender}
use Rattle.cli_page.specs.declared.index.Row.{Row}
use Rattle.cli_page.specs.declared.report.Record.{Record}
use Rattle.cli_page.specs.DueLists.{row_tag, number_head, day_cell}
use Rattle.cli_page.specs.Heads.{head_start, head_end}
use Rattle.cli_page.specs.Marks.{read_all}
use Rattle.cli_page.specs.Names.{file_name, history_name}
use Rattle.cli_page.specs.Pages.{path_piece, text_piece}

-- ---- what an index has of a record

-- what it has of a message: the number of its file, three texts of its header, each cut to 80 columns, and what it is sorted by
-- among senders
pub record IndexLetter : Type 0 where
  pub file : ℕ
  pub sender : List ℕ
  pub subject : List ℕ
  pub date : List ℕ
  pub key : List ℕ

pub record IndexRow : Type 0 where
  pub volume : Option ℕ
  pub number : ℕ
  pub path : List ℕ
  pub day : Date
  pub due : Option Date
  pub is_destroyed : Bool
  pub letter : Option IndexLetter

abbrev pub letter_view : Letter → IndexLetter
letter_view l = record {
  file = l.file;
  sender = string_bytes l.headers.sender;
  subject = string_bytes l.headers.subject;
  date = string_bytes l.headers.date;
  key = string_bytes l.sender;
}

abbrev pub row_view : Row → IndexRow
row_view r = record {
  volume = r.volume;
  number = r.number;
  path = r.path.items;
  day = r.day;
  due = r.due;
  is_destroyed = r.is_destroyed;
  letter = option_map letter_view r.letter;
}

-- A MESSAGE AS IT IS LISTED. It is sorted by its sender without quotation marks and without case.
abbrev pub letter_for : (file : ℕ) → Headers → IndexLetter
letter_for file h = record {
  file = file;
  sender = cut_octets (string_bytes h.sender);
  subject = cut_octets (string_bytes h.subject);
  date = cut_octets (string_bytes h.date);
  key = folded (encode_utf8_all (read_all (chars (cut_octets (string_bytes h.sender)))));
}

-- A RECORD AS IT IS LISTED, with its message, if that is exported
abbrev pub row_for : Record → Option (ℕ × Headers) → IndexRow
row_for r letter = record {
  volume = r.volume;
  number = r.number;
  path = r.path.now;
  day = r.day;
  due = r.due;
  is_destroyed = r.is_destroyed;
  letter = option_map (λ l. letter_for l.0 l.1) letter;
}

-- ---- what a page says of it

unfoldable pub letter_texts : IndexLetter → List ℕ
letter_texts l =
    codes "<td>" ++ text_piece l.sender ++ codes "</td><td>" ++ text_piece l.subject ++ codes "</td><td>" ++ text_piece l.date

-- a link to the file of the message
unfoldable pub file_link : (volume : Option ℕ) → (file : ℕ) → List ℕ
file_link volume n =
    codes "</td><td class=\"d\"><a href=\"" ++ file_name volume n ++ codes "\">" ++ file_name volume n ++ codes "</a></td></tr>\n"

-- the cells of the message, or why there is none, and the end of the row
abbrev pub letter_cells : (volume : Option ℕ) → (is_destroyed : Bool) → Option IndexLetter → List ℕ
letter_cells volume is_destroyed (Some l) = letter_texts l ++ file_link volume l.file
letter_cells volume true None = codes "<td></td><td></td><td></td><td></td></tr>\n"
letter_cells volume false None = codes "<td></td><td></td><td></td><td>message altered, not exported</td></tr>\n"

-- the due date, or what stands in its place
abbrev pub due_words : (is_destroyed : Bool) → Option Date → List ℕ
due_words true due = codes "destroyed"
due_words false (Some due) = date_text due
due_words false None = codes "never"

unfoldable pub due_cell : (is_destroyed : Bool) → Option Date → List ℕ
due_cell is_destroyed due = codes "</td><td class=\"d\">" ++ due_words is_destroyed due ++ codes "</td>"

-- THE ROW of a record: its number, its class, the day of its capture, its due date, and its message
unfoldable pub index_row : IndexRow → List ℕ
index_row r =
    row_tag (is_some r.letter) ++ number_head r.volume r.number ++ path_piece r.path ++ day_cell r.day ++ due_cell r.is_destroyed r.due
    ++ letter_cells r.volume r.is_destroyed r.letter

-- ---- the whole index

-- the file of the store, when the index is made, and how many records it has
unfoldable pub facts : (file moment : List ℕ) → ℕ → List ℕ
facts file moment count =
    codes "<body class=\"index\">\n<header>\n<h1>Exported records</h1>\n<dl class=\"facts\">\n<dt>Store</dt><dd>" ++ text_piece file
    ++ codes "</dd>\n<dt>Made</dt><dd>" ++ text_piece moment
    ++ codes "</dd>\n<dt>Records</dt><dd>" ++ decimal count

abbrev pub condition_words : Option (List ℕ) → List ℕ
condition_words None = codes "none: all records of the store"
condition_words (Some conditions) = text_piece conditions

abbrev pub order_words : Order → List ℕ
order_words Number = codes "by number"
order_words ByDate = codes "by the date in the header; records without a date come last"
order_words Sender = codes "by sender"

-- which records it has, and in which order
unfoldable pub choice_facts : Option (List ℕ) → Order → List ℕ
choice_facts conditions order =
    codes "</dd>\n<dt>Conditions</dt><dd>" ++ condition_words conditions
    ++ codes "</dd>\n<dt>Order</dt><dd>" ++ order_words order
    ++ codes "</dd>\n</dl>\n</header>\n<main>\n"

-- a link to the file of the events of a store, or of a volume
unfoldable pub history_link : (volume : Option ℕ) → List ℕ
history_link volume = codes "<a href=\"" ++ history_name volume ++ codes "\">" ++ history_name volume ++ codes "</a>"

abbrev pub more_link : (volume : Option ℕ) → List ℕ
more_link volume = codes ", " ++ history_link volume

abbrev pub have_events : (others : ℕ) → List ℕ
have_events others = if others == 0 then codes " has the events of the records." else codes " have the events of the records."

-- THE LINKS TO THE EVENTS of the records: to those of a store, or of each of some volumes; none where none are beside the index
abbrev pub history_links : (volumes : List (Option ℕ)) → List ℕ
history_links [] = []
history_links (v ∷ vs) = codes " " ++ history_link v ++ flat_map more_link vs ++ have_events (length vs)

unfoldable pub index_table_head : (histories : List (Option ℕ)) → List ℕ
index_table_head histories =
    codes "<table>\n<caption>Long texts are cut here; manifest.csv has them whole. SHA256SUMS has the sums of the files."
    ++ history_links histories
    ++ codes "</caption>\n<thead><tr><th scope=\"col\" class=\"n\">Record</th><th scope=\"col\" class=\"k\">Class</th><th scope=\"col\" class=\"d\">Captured</th><th scope=\"col\" class=\"d\">Due</th><th scope=\"col\">Sender</th><th scope=\"col\">Subject</th><th scope=\"col\" class=\"h\">Date in the header</th><th scope=\"col\" class=\"d\">File</th></tr></thead>\n<tbody>\n"

unfoldable pub index_end : List ℕ
index_end =
    codes "</tbody>\n</table>\n</main>\n<footer>Made by mailfile-store export. Captured and Due are days of UTC.</footer>\n</body>\n</html>\n"

unfoldable pub index_title : List ℕ
index_title = codes "Exported records"

-- AN INDEX of some rows: the head of the page, what the index is about, and a row for each record, in their order
unfoldable pub index_text : IndexHeading → List IndexRow → List ℕ
index_text about rows =
    head_start ++ index_title ++ head_end ++ facts about.file.now about.moment.now (length rows)
    ++ choice_facts (option_map (λ c. c.now) about.conditions) about.order ++ index_table_head about.histories.now ++ flat_map index_row rows
    ++ index_end

-- ---- the order of the rows

-- after each moment of a date, which is that of a row without a date
abbrev pub last_moment : ℤ
last_moment = pos (2 ^ 63 - 1)

abbrev pub moment_key : Option Letter → ℤ
moment_key None = last_moment
moment_key (Some l) = unwrap_or l.moment last_moment

abbrev pub sender_key : Option Letter → List ℕ
sender_key None = []
sender_key (Some l) = string_bytes l.sender

abbrev pub is_earlier : Row → Row → Bool
is_earlier one other = is_lt (int_cmp (moment_key one.letter) (moment_key other.letter))

-- by octets
abbrev pub has_lower_sender : Row → Row → Bool
has_lower_sender one other = is_lt (slice_cmp nat_cmp (sender_key one.letter) (sender_key other.letter))

-- EACH ROW ONCE, in an order; rows that tie stand as they were added
pub record IsOrderedBy (comes_before : Row → Row → Bool) (added shown : List Row) : Type 0 where
  pub each : IsPermutation added shown
  pub ordered : IsSortedBy comes_before shown
  pub ties : IsStableBy comes_before added shown

-- by number as they were added, by the moments of their dates, or by their senders
abbrev pub IsOrdered : Order → (added shown : List Row) → Type 0
IsOrdered Number added shown = shown ≡ added
IsOrdered ByDate added shown = IsOrderedBy is_earlier added shown
IsOrdered Sender added shown = IsOrderedBy has_lower_sender added shown

-- THE INDEX of the records that were added, each once
pub record IsIndex (about : IndexHeading) (added : List Row) (text : List ℕ) : Type 0 where
  pub rows : List Row
  pub ordered : IsOrdered about.order added rows
  pub is : text ≡ index_text about (map row_view rows)
