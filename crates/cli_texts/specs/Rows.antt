-- Records as rows of CSV (RFC 4180), in octets of UTF-8.
use Rattle.std.specs.Prelude.{ℕ, ◌==◌, ◌||◌, Bool, true, false, if◌then◌else◌, List, [], ◌∷◌, ◌++◌, map, flat_map, Option, Some, None, codes, decimal, string_bytes}
use Rattle.std.specs.Borrow.{Bor}
use Rattle.std.specs.Char.{is_ascii_control}
use Rattle.std.specs.Char.Escape.{escape_ascii}
use Rattle.std.specs.List.{list_any, starts_with}
use Rattle.std.specs.Prelude.{nat_eq}
use Rattle.std.specs.Str.{encode_utf8_all, is_utf8}
use Rattle.csv.specs.Writing.{default_writer, row_text, with_style}
use Rattle.csv.specs.declared.writer.QuoteStyle.{QuoteStyle}
use Rattle.csv.specs.declared.writer.QuoteStyle.TheVariants.{Always, Necessary}
use Rattle.jiff.specs.Words.{date_text}
use Rattle.jiff_core.specs.declared.civil.date.Date.{Date}
use Rattle.cli_texts.specs.declared.headers.Headers.{Headers}
use Rattle.cli_texts.specs.declared.headers.ListedHeaders.{ListedHeaders}
use Rattle.cli_texts.specs.declared.headers.ListedHeaders.TheVariants as listed
use Rattle.cli_texts.specs.declared.records.Row.{Row}
use Rattle.cli_texts.specs.declared.rows.Exported.{Exported}
use Rattle.cli_texts.specs.declared.rows.Exported.TheVariants as exported
use Rattle.cli_texts.specs.Words.{words}

-- ---- octets as text

-- each octet that is no printable character of ASCII by an escape, as `\n` or `\xff`
abbrev pub escapes : List ℕ → List ℕ
escapes octets = encode_utf8_all (flat_map escape_ascii octets)

-- a text without controls as it is, and anything else by escapes
abbrev pub shown_octets : List ℕ → List ℕ
shown_octets octets =
    if list_any is_ascii_control octets then escapes octets
    else if is_utf8 octets then octets
    else escapes octets

-- ---- a row of fields

-- the signs that begin a formula in a spreadsheet: = + - @, and their full-width forms U+FF1D, U+FF0B, U+FF0D and U+FF20
abbrev pub formula_signs : List (List ℕ)
formula_signs =
    codes "=" ∷ codes "+" ∷ codes "-" ∷ codes "@" ∷ (239 ∷ 188 ∷ 157 ∷ []) ∷ (239 ∷ 188 ∷ 139 ∷ []) ∷ (239 ∷ 188 ∷ 141 ∷ [])
    ∷ (239 ∷ 188 ∷ 160 ∷ []) ∷ []

abbrev pub begins_with_control : List ℕ → Bool
begins_with_control [] = false
begins_with_control (b ∷ bs) = is_ascii_control b

abbrev pub begins_with_sign : List ℕ → Bool
begins_with_sign field = list_any (λ sign. starts_with nat_eq field sign) formula_signs

-- a spreadsheet could take a field for a formula, or drop its beginning
abbrev pub is_formula : List ℕ → Bool
is_formula field = begins_with_sign field || begins_with_control field

-- A FIELD AS A CELL: an apostrophe comes before what a spreadsheet could take for a formula
abbrev pub cell : List ℕ → List ℕ
cell field = if is_formula field then 39 ∷ field else field

abbrev pub has_semicolon : List ℕ → Bool
has_semicolon field = list_any (λ b. b == 59) field

-- all cells stand in quotation marks where a field has a semicolon, at which spreadsheets of many languages begin another cell
abbrev pub style_for : List (List ℕ) → QuoteStyle
style_for fields = if list_any has_semicolon fields then Always else Necessary

-- THE ROW OF SOME FIELDS, with its line end
abbrev pub csv_line : List (List ℕ) → List ℕ
csv_line fields = row_text (with_style default_writer (style_for fields)) (map cell fields)

-- ---- the fields of a record

abbrev pub due_field : Option Date → List ℕ
due_field None = codes "never"
due_field (Some date) = date_text date

-- nothing where it is destroyed
abbrev pub due_of : Row → List ℕ
due_of r = if r.destroyed then [] else due_field r.due

-- names with spaces between them
abbrev pub spaced : List (List ℕ) → List ℕ
spaced [] = []
spaced (n ∷ ns) = shown_octets n ++ flat_map (λ m. 32 ∷ shown_octets m) ns

abbrev pub yes_or_no : Bool → List ℕ
yes_or_no is_so = if is_so then codes "yes" else codes "no"

-- THE NUMBER OF A RECORD: its own, as 17, after that of its volume where it has one, as 3/17
abbrev pub number_field : (volume : Option ℕ) → ℕ → List ℕ
number_field None n = decimal n
number_field (Some v) n = decimal v ++ (codes "/" ++ decimal n)

-- its number, its class, the day of its capture, its due date, its holds, and whether it is destroyed
abbrev pub record_fields : Row → List (List ℕ)
record_fields r =
    number_field r.volume r.number ∷ r.path.now ∷ date_text r.day ∷ due_of r ∷ spaced (map (λ h. h.items) r.holds.now)
    ∷ yes_or_no r.destroyed ∷ []

-- the sender, the subject and the date of its message's header, whole; empty where they are not known
abbrev pub header_fields : Option Headers → List (List ℕ)
header_fields None = [] ∷ [] ∷ [] ∷ []
header_fields (Some h) = words (string_bytes h.sender) ∷ words (string_bytes h.subject) ∷ words (string_bytes h.date) ∷ []

-- THE FIELDS OF A LISTED RECORD: those of a header too, where they are asked for
abbrev pub listed_fields : Row → ListedHeaders → List (List ℕ)
listed_fields r listed.Unasked = record_fields r
listed_fields r listed.Destroyed = record_fields r ++ header_fields None
listed_fields r (listed.Texts headers) = record_fields r ++ header_fields (Some headers.now)

-- of a message that was captured as another one: its length and its sum, where they are known
abbrev pub captured_fields : Option (ℕ × Bor (List ℕ)) → List (List ℕ)
captured_fields None = [] ∷ [] ∷ [] ∷ []
captured_fields (Some seal) = [] ∷ decimal seal.0 ∷ shown_octets seal.1.now ∷ []

-- the file of its message, how many octets that has, and its SHA-256
abbrev pub message_fields : Exported → List (List ℕ)
message_fields exported.Destroyed = captured_fields None
message_fields (exported.Altered captured) = captured_fields captured
message_fields (exported.Written kept) = kept.file.now ∷ decimal kept.octets ∷ kept.sum.now ∷ []

-- what the header says of a message that was written
abbrev pub headers_of : Exported → Option Headers
headers_of exported.Destroyed = None
headers_of (exported.Altered captured) = None
headers_of (exported.Written kept) = Some kept.headers.now

-- THE LAST FIELDS OF A RECORD IN A MANIFEST, which come behind those of the record: what it has of the message
abbrev pub last_fields : Exported → List (List ℕ)
last_fields message = message_fields message ++ header_fields (headers_of message)
