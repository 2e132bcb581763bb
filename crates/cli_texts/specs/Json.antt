-- The values of JSON (RFC 8259) that are printed, and their texts. A member stands in its object by the byte order of its name.
use Rattle.std.specs.Prelude.{◌≡◌, ℕ, ◌/◌, ◌%◌, Bool, ◌&&◌, not, if◌then◌else◌, List, [], ◌∷◌, ◌++◌, map, flat_map}
use Rattle.std.specs.Prelude.{Option, Some, None, codes, chars, string_bytes}
use Rattle.std.specs.Char.{digit_char, is_ascii, is_ascii_control}
use Rattle.std.specs.Char.Escape.{backslash, encode_utf16}
use Rattle.jiff.specs.Words.{date_text}
use Rattle.jiff_core.specs.declared.civil.date.Date.{Date}
use Rattle.serde_json.specs.Data.{Data, null, boolean, number, unsigned, string, array, object, Members, no_members, put}
use Rattle.serde_json.specs.View.{items_of}
use Rattle.serde_json.specs.Written.{compact_text}
use Rattle.cli_texts.specs.declared.cases.CaseBeginning.{CaseBeginning}
use Rattle.cli_texts.specs.declared.cases.ListedCase.{ListedCase}
use Rattle.cli_texts.specs.declared.headers.Headers.{Headers}
use Rattle.cli_texts.specs.declared.headers.ListedHeaders.{ListedHeaders}
use Rattle.cli_texts.specs.declared.headers.ListedHeaders.TheVariants as listed
use Rattle.cli_texts.specs.declared.records.Row.{Row}
use Rattle.cli_texts.specs.declared.titles.ListedTitle.{ListedTitle}
use Rattle.cli_texts.specs.Moments.{IsMomentText}
use Rattle.cli_texts.specs.Rows.{shown_octets}

-- ---- the text of a value

-- a code unit of UTF-16 by its four hexadecimal digits, as `\u00fc` (section 7)
abbrev pub unit_escape : ℕ → List ℕ
unit_escape u =
    backslash ∷ 117 ∷ digit_char (u / 0x1000 % 16) ∷ digit_char (u / 0x100 % 16) ∷ digit_char (u / 0x10 % 16) ∷ digit_char (u % 16) ∷ []

abbrev pub is_printable : ℕ → Bool
is_printable c = is_ascii c && not (is_ascii_control c)

-- a printable character of ASCII as it is, and any other one by its code units
abbrev pub ascii_of : ℕ → List ℕ
ascii_of c = if is_printable c then c ∷ [] else flat_map unit_escape (encode_utf16 c)

abbrev pub ascii_text : List ℕ → List ℕ
ascii_text text = flat_map ascii_of (chars text)

-- THE TEXT OF A VALUE: with no space, and in ASCII
abbrev pub json_text : Data → List ℕ
json_text value = ascii_text (compact_text value)

-- ---- values

abbrev pub Member : Type 0
Member = List ℕ × Data

-- members with more of them, of which each takes the place of one that has its name
abbrev pub with_members : List Member → Members → Members
with_members [] ms = ms
with_members (m ∷ more) ms = with_members more (put m.0 m.1 ms)

abbrev pub object_of : List Member → Data
object_of members = object (with_members members no_members)

-- octets as they are shown
abbrev pub shown_value : List ℕ → Data
shown_value octets = string (shown_octets octets)

abbrev pub texts_value : List (List ℕ) → Data
texts_value texts = array (items_of (map shown_value texts))

abbrev pub due_value : Option Date → Data
due_value None = null
due_value (Some date) = string (date_text date)

-- ---- a record

abbrev pub record_members : Row → List Member
record_members r =
    (codes "number", number (unsigned r.number))
    ∷ (codes "class", shown_value r.path.now)
    ∷ (codes "day", string (date_text r.day))
    ∷ (codes "due", due_value r.due)
    ∷ (codes "holds", texts_value (map (λ h. h.items) r.holds.now))
    ∷ (codes "destroyed", boolean r.destroyed)
    ∷ []

abbrev pub text_members : (sender subject date : Data) → List Member
text_members sender subject date = (codes "sender", sender) ∷ (codes "subject", subject) ∷ (codes "date", date) ∷ []

-- what its message's header says: as texts, null where the message is destroyed, and nothing where it is not asked for
abbrev pub header_members : ListedHeaders → List Member
header_members listed.Unasked = []
header_members listed.Destroyed = text_members null null null
header_members (listed.Texts headers) =
    text_members (string (string_bytes headers.now.sender)) (string (string_bytes headers.now.subject)) (string (string_bytes headers.now.date))

-- the number of its volume, in an archive of volumes
abbrev pub volume_members : Option ℕ → List Member
volume_members None = []
volume_members (Some v) = (codes "volume", number (unsigned v)) ∷ []

-- THE OBJECT OF A LISTED RECORD
abbrev pub record_value : Row → ListedHeaders → Data
record_value r headers = object_of (record_members r ++ (volume_members r.volume ++ header_members headers))

-- ---- the title of a class

abbrev pub title_members : ListedTitle → List Member
title_members t =
    (codes "class", shown_value t.path.now) ∷ (codes "title", shown_value t.title.now) ∷ (codes "basis", shown_value t.basis.now) ∷ []

-- THE OBJECT OF A CLASS WITH ITS TITLE
abbrev pub title_value : ListedTitle → Data
title_value t = object_of (title_members t)

-- ---- a case

-- how it began, with the text of that moment
abbrev pub beginning_members : CaseBeginning → (moment : List ℕ) → List Member
beginning_members b moment =
    (codes "event", number (unsigned b.event))
    ∷ (codes "moment", string moment)
    ∷ (codes "who", shown_value b.who.now)
    ∷ (codes "reason", shown_value b.reason.now)
    ∷ (codes "found", boolean b.is_found)
    ∷ []

-- the value of how it began: null where no history tells it
abbrev pub IsBeginningValue : Option CaseBeginning → Data → Type 0
IsBeginningValue None value = value ≡ null
IsBeginningValue (Some b) value = (moment : List ℕ) × IsMomentText b.moment moment
    × (value ≡ object_of (beginning_members b moment ++ volume_members b.volume))

-- with the value of how it began
abbrev pub case_members : ListedCase → (began : Data) → List Member
case_members c began =
    (codes "name", shown_value c.name.now) ∷ (codes "records", number (unsigned c.records)) ∷ (codes "began", began) ∷ []

-- THE OBJECT OF A CASE
abbrev pub IsCaseValue : ListedCase → Data → Type 0
IsCaseValue c value = (began : Data) × IsBeginningValue c.beginning began × (value ≡ object_of (case_members c began))

-- THE TEXT OF THAT OBJECT
abbrev pub IsCaseObject : ListedCase → List ℕ → Type 0
IsCaseObject c text = (value : Data) × IsCaseValue c value × (text ≡ json_text value)
