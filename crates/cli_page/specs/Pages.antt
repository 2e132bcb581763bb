-- Pieces of a page, in octets of UTF-8.
use Rattle.std.specs.Prelude.{ℕ, List, ◌++◌, codes, decimal}
use Rattle.std.specs.Str.{chars, encode_utf8_all}
use Rattle.std.specs.Str.Lossy.{utf8_lossy}
use Rattle.jiff.specs.Words.{date_text}
use Rattle.jiff_core.specs.declared.civil.date.Date.{Date}
use Rattle.cli_page.specs.Escaping.{shown_all, path_shown}

-- a text as a page shows it
unfoldable pub text_piece : List ℕ → List ℕ
text_piece text = encode_utf8_all (shown_all (chars text))

-- a path or a name; what is no UTF-8 in it is U+FFFD
unfoldable pub name_piece : List ℕ → List ℕ
name_piece name = text_piece (utf8_lossy name)

-- the path of a class, after each slash of which a line may end
unfoldable pub path_piece : List ℕ → List ℕ
path_piece path = encode_utf8_all (path_shown (chars (utf8_lossy path)))

-- a date as an element
unfoldable pub time_piece : Date → List ℕ
time_piece date = codes "<time>" ++ date_text date ++ codes "</time>"

-- a number in a cell of a table
unfoldable pub number_cell_piece : ℕ → List ℕ
number_cell_piece n = codes "<td class=\"n\">" ++ decimal n ++ codes "</td>"
