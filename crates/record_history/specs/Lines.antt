-- The line of an event, as `17 2031-01-01T09:30:00Z ann held audit 1 : order 12/3`: its number, its moment, who did it, the
-- deed, the notes where there are any, and the reason after ` : ` where there is one. Single spaces separate these.
--
-- What the archive's users choose freely stands in four places: who did it, the name of a hold and that of an officer, each
-- one word at a fixed place, and the reason, which ends the line. The title of a class and its legal basis stand after
-- their lengths, so that they may have spaces. A deed begins with its own word. One more word is kept for a deed that
-- comes later: `continued`, which names the last mark of another volume. So no line that stands today is ever written in
-- another way, or read as another event.
use Rattle.std.specs.Prelude.{ℕ, ◌+◌, ◌/◌, ◌%◌, Bool, true, false, List, [], ◌∷◌, ◌++◌, length, flat_map, Option, Some, None, codes, decimal}
use Rattle.class_plan.specs.declared.schedules.Schedule.{Schedule}
use Rattle.class_plan.specs.Texts.{text_of}
use Rattle.class_plan.specs.Plans.{Listing, Row}
use Rattle.class_plan.specs.Calendar.{Civil, civil}
use Rattle.record_archive.specs.Archive.{Record}
use Rattle.record_history.specs.Events.{Event, Deed, Seal, Filing}
use Rattle.record_history.specs.Events.{Captured, Held, Released, Destroyed, ClassAdded, PlanReplaced, FoundPlan, FoundMessage, FoundRecord, FoundHold}
use Rattle.record_history.specs.Events.{ReasonsRequired, ReasonsOptional, FindingsAccepted, Refiled, Titled}

-- ---- moments and days

-- a number below 100
abbrev pub two_digits : ℕ → List ℕ
two_digits n = (48 + n / 10) ∷ (48 + n % 10) ∷ []

-- a number below 10,000
abbrev pub four_digits : ℕ → List ℕ
four_digits n = two_digits (n / 100) ++ two_digits (n % 100)

abbrev pub civil_text : Civil → List ℕ
civil_text c = four_digits c.year ++ codes "-" ++ two_digits c.month ++ codes "-" ++ two_digits c.day

-- a day of the years 1970 to 9999, as `2031-01-01`: the full-date of RFC 3339, section 5.6
unfoldable pub day_text : ℕ → List ℕ
day_text n = civil_text (civil n)

-- a date, with the time of day of a moment
abbrev pub at_text : Civil → ℕ → List ℕ
at_text c m = civil_text c ++ codes "T" ++ two_digits (m % 86400 / 3600) ++ codes ":" ++ two_digits (m % 3600 / 60) ++ codes ":"
    ++ two_digits (m % 60) ++ codes "Z"

-- a moment of these years in UTC, as `2031-01-01T09:30:00Z`: the date-time of RFC 3339, section 5.6
unfoldable pub moment_text : ℕ → List ℕ
moment_text m = at_text (civil (m / 86400)) m

-- ---- deeds

-- as `5120 2f77668a9dfbf8d5848b9eeb4a7145ca94c6ed9236e4a773f6dcafa5132b2f91`
abbrev pub seal_text : Seal → List ℕ
seal_text s = decimal s.octets ++ codes " " ++ s.sum

abbrev pub filing_text : Option Filing → List ℕ
filing_text None = []
filing_text (Some f) = codes " by " ++ f.officer ++ codes " rules " ++ f.rules

abbrev pub schedule_words : Option Schedule → List ℕ
schedule_words None = []
schedule_words (Some s) = codes ", " ++ text_of s

abbrev pub closed_word : Bool → List ℕ
closed_word true = []
closed_word false = codes "closed "

abbrev pub class_text : Row → List ℕ
class_text r = codes "; " ++ closed_word r.is_open ++ r.path ++ schedule_words r.schedule

-- as `root permanent; finance, 7 years destroy; closed rent; unfiled`
abbrev pub plan_text : Listing → List ℕ
plan_text p = codes "root " ++ text_of p.root ++ flat_map class_text p.rows

abbrev pub state_word : Bool → List ℕ
state_word false = codes "live"
state_word true = codes "destroyed"

abbrev pub record_text : Record → List ℕ
record_text r = decimal r.number ++ codes " of message " ++ decimal r.message ++ codes " in " ++ r.path ++ codes " on " ++ day_text r.day
    ++ codes " " ++ state_word r.destroyed

abbrev pub with_comma : List ℕ → List ℕ
with_comma path = codes "," ++ path

-- as `finance/tax,rent`
abbrev pub paths_text : List (List ℕ) → List ℕ
paths_text [] = []
paths_text (q ∷ qs) = q ++ flat_map with_comma qs

abbrev pub captured_text : (first : ℕ) → Seal → (day : ℕ) → Option Filing → (paths : List (List ℕ)) → List ℕ
captured_text first seal day filing paths = codes "captured " ++ decimal first ++ codes " on " ++ day_text day ++ codes " message "
    ++ seal_text seal ++ filing_text filing ++ codes " in " ++ paths_text paths

abbrev pub destroyed_text : (number day : ℕ) → Schedule → List ℕ
destroyed_text n day schedule = codes "destroyed " ++ decimal n ++ codes " as due by " ++ day_text day ++ codes " (" ++ text_of schedule
    ++ codes ")"

abbrev pub refiled_text : (number : ℕ) → (path : List ℕ) → List ℕ
refiled_text n path = codes "refiled " ++ decimal n ++ codes " to " ++ path

-- a text after its length in octets, as `13:Tax documents`
abbrev pub counted_text : List ℕ → List ℕ
counted_text t = decimal (length t) ++ codes ":" ++ t

-- as `titled finance/tax 13:Tax documents 6:AO 147`
abbrev pub titled_text : (path title basis : List ℕ) → List ℕ
titled_text path title basis = codes "titled " ++ path ++ codes " " ++ counted_text title ++ codes " " ++ counted_text basis

-- a deed, which begins with a word of its own
abbrev pub deed_text : Deed → List ℕ
deed_text (Captured first seal day filing paths) = captured_text first seal day filing paths
deed_text (Held name n) = codes "held " ++ name ++ codes " " ++ decimal n
deed_text (Released name n) = codes "released " ++ name ++ codes " " ++ decimal n
deed_text (Destroyed n day schedule) = destroyed_text n day schedule
deed_text (Refiled n path) = refiled_text n path
deed_text (ClassAdded path) = codes "added class " ++ path
deed_text (PlanReplaced p) = codes "replaced plan (" ++ plan_text p ++ codes ")"
deed_text (Titled path title basis) = titled_text path title basis
deed_text ReasonsRequired = codes "made reasons required"
deed_text ReasonsOptional = codes "made reasons optional"
deed_text FindingsAccepted = codes "accepted findings"
deed_text (FoundPlan p) = codes "found plan (" ++ plan_text p ++ codes ")"
deed_text (FoundMessage n seal) = codes "found message " ++ decimal n ++ codes " " ++ seal_text seal
deed_text (FoundRecord r) = codes "found record " ++ record_text r
deed_text (FoundHold name n) = codes "found hold " ++ name ++ codes " " ++ decimal n

-- ---- lines

abbrev pub word : List ℕ → List ℕ
word w = codes " " ++ w

abbrev pub notes_text : List ℕ → List ℕ
notes_text [] = []
notes_text (c ∷ cs) = word (c ∷ cs)

abbrev pub reason_text : List ℕ → List ℕ
reason_text [] = []
reason_text (c ∷ cs) = codes " : " ++ c ∷ cs

-- THE LINE of the event with this number
abbrev pub line_of : ℕ → Event → List ℕ
line_of n e = decimal n ++ word (moment_text e.moment) ++ word e.who ++ word (deed_text e.deed) ++ notes_text e.notes ++ reason_text e.reason

-- the lines of events, numbered upwards
abbrev pub lines_from : ℕ → List Event → List (List ℕ)
lines_from n [] = []
lines_from n (e ∷ es) = line_of n e ∷ lines_from (n + 1) es
