-- How a line is read, from the left. A function that reads answers what it read and the octets that follow.
use Rattle.std.specs.Prelude.{◌≡◌, ℕ, ◌+◌, ◌-◌, ◌*◌, ◌==◌, nat_le, Bool, true, false, ◌&&◌, if◌then◌else◌, List, [], ◌∷◌, length, take, drop, slice_index, codes, Option, Some, None, pos, Result, Ok, Err}
use Rattle.std.specs.Str.{bytes_eq}
use Rattle.std.specs.List.{before_first, position_or_len, slice_split}
use Rattle.jiff.specs.Words.{days_in_month}
use Rattle.session_words.specs.Words.{number_up_to, greatest_number}
use Rattle.class_plan.specs.declared.schedules.Schedule.{Schedule}
use Rattle.class_plan.specs.Calendar.{Civil, number_of}
use Rattle.class_plan.specs.Plans.{Listing, Row}
use Rattle.class_plan.specs.Texts.{◌>>=◌, schedule_of_bytes}
use Rattle.record_history.specs.Events.{Event, Deed, Seal, Filing}
use Rattle.record_history.specs.Events.{Captured, Held, Released, Destroyed, ClassAdded, PlanReplaced, FoundPlan, FoundMessage, FoundRecord, FoundHold}
use Rattle.record_history.specs.Events.{ReasonsRequired, ReasonsOptional, FindingsAccepted, Refiled, Titled}
use Rattle.record_history.specs.declared.faults.LineFault.{LineFault}
use Rattle.record_history.specs.declared.faults.LineFault.TheVariants.{NotALine, NoMemory}

-- ---- what a reader of the code answers

abbrev pub Fails : {Y : Type 0} → LineFault → Option Y → Type 0
Fails NoMemory read = Unit {0}
Fails NotALine read = read ≡ None

-- what is read, seen by view, unless memory runs out
abbrev pub Gives : {X Y : Type 0} → (X → Y) → Result X LineFault → Option Y → Type 0
Gives view (Ok x) read = read ≡ Some (view x)
Gives view (Err e) read = Fails e read

-- ---- words

-- the octets before the first c, or all
unfoldable pub until : ℕ → List ℕ → List ℕ
until c t = before_first (λ o. o == c) t

-- the octets from the first c on, or none
unfoldable pub from : ℕ → List ℕ → List ℕ
from c t = drop (position_or_len (λ o. o == c) t) t

-- the octets after these, where the text begins with them
unfoldable pub stripped : List ℕ → List ℕ → Option (List ℕ)
stripped p t = if bytes_eq (take (length p) t) p then Some (drop (length p) t) else None

unfoldable pub parts_at : ℕ → List ℕ → List (List ℕ)
parts_at c t = slice_split (λ o. o == c) t

-- the greatest number of a record
abbrev pub greatest_record : ℕ
greatest_record = 4294967295

unfoldable pub number_at : ℕ → List ℕ → Option (ℕ × List ℕ)
number_at greatest t = do
  n ← number_up_to greatest (until 32 t)
  Some (n, from 32 t)

-- ---- days and moments

-- two digits at a place
abbrev pub two_at : List ℕ → ℕ → ℕ
two_at w i = (slice_index w i - 48) * 10 + (slice_index w (i + 1) - 48)

-- a date that the calendar has, in the years 1970 to 9999
abbrev pub is_real : Civil → Bool
is_real c =
    nat_le 1970 c.year && nat_le c.year 9999 && nat_le 1 c.month && nat_le c.month 12
    && nat_le 1 c.day && nat_le c.day (days_in_month (pos c.year) c.month)

unfoldable pub real_day : Civil → Option ℕ
real_day c = if is_real c then Some (number_of c) else None

abbrev pub civil_at : List ℕ → Civil
civil_at w = record { year = two_at w 0 * 100 + two_at w 2; month = two_at w 5; day = two_at w 8 }

unfoldable pub day_of : List ℕ → Option ℕ
day_of w = if length w == 10 then real_day (civil_at w) else None

-- a day with a time of day
abbrev pub moment_with : List ℕ → ℕ → ℕ
moment_with w day = day * 86400 + two_at w 11 * 3600 + two_at w 14 * 60 + two_at w 17

-- a moment up to 9999-12-31T23:59:59Z
abbrev pub moment_within : ℕ → Option ℕ
moment_within m = if nat_le m 253402300799 then Some m else None

unfoldable pub moment_of : List ℕ → Option ℕ
moment_of w = if length w == 20 then (day_of (take 10 w) >>= λ day. moment_within (moment_with w day)) else None

unfoldable pub day_at : List ℕ → Option (ℕ × List ℕ)
day_at t = do
  day ← day_of (until 32 t)
  Some (day, from 32 t)

-- ---- what deeds are made of

unfoldable pub seal_at : List ℕ → Option (Seal × List ℕ)
seal_at t = do
  n ← number_at greatest_number t
  r ← stripped (codes " ") n.1
  Some (record { octets = n.0; sum = until 32 r }, from 32 r)

unfoldable pub filing_from : Option (List ℕ) → List ℕ → Option (Option Filing × List ℕ)
filing_from None t = Some (None, t)
filing_from (Some r) t = do
  q ← stripped (codes " rules ") (from 32 r)
  Some (Some (record { officer = until 32 r; rules = until 32 q }), from 32 q)

unfoldable pub filing_at : List ℕ → Option (Option Filing × List ℕ)
filing_at t = filing_from (stripped (codes " by ") t) t

-- the paths of a word, with commas between them
abbrev pub paths_of : List ℕ → List (List ℕ)
paths_of [] = []
paths_of (c ∷ cs) = parts_at 44 (c ∷ cs)

unfoldable pub captured_at : List ℕ → Option (Deed × List ℕ)
captured_at t = do
  first ← number_at greatest_record t
  a ← stripped (codes " on ") first.1
  day ← day_at a
  b ← stripped (codes " message ") day.1
  seal ← seal_at b
  filing ← filing_at seal.1
  r ← stripped (codes " in ") filing.1
  Some (Captured first.0 seal.0 day.0 filing.0 (paths_of (until 32 r)), from 32 r)

unfoldable pub refiled_at : List ℕ → Option (Deed × List ℕ)
refiled_at t = do
  n ← number_at greatest_record t
  r ← stripped (codes " to ") n.1
  Some (Refiled n.0 (until 32 r), from 32 r)

-- the longest text that is counted, in octets
abbrev pub longest_counted : ℕ
longest_counted = 500

-- the first octets of a text, and the others, where it has so many
abbrev pub cut : ℕ → List ℕ → Option (List ℕ × List ℕ)
cut n t = if nat_le n (length t) then Some (take n t, drop n t) else None

-- a text after its length, and what follows it
unfoldable pub counted_at : List ℕ → Option (List ℕ × List ℕ)
counted_at t = do
  n ← number_up_to longest_counted (until 58 t)
  r ← stripped (codes ":") (from 58 t)
  cut n r

unfoldable pub titled_at : List ℕ → Option (Deed × List ℕ)
titled_at t = do
  a ← stripped (codes " ") (from 32 t)
  title ← counted_at a
  b ← stripped (codes " ") title.1
  basis ← counted_at b
  Some (Titled (until 32 t) title.0 basis.0, basis.1)

-- a name and a number
unfoldable pub hold_at : List ℕ → Option (List ℕ × ℕ × List ℕ)
hold_at t = do
  r ← stripped (codes " ") (from 32 t)
  n ← number_at greatest_record r
  Some (until 32 t, n.0, n.1)

unfoldable pub hold_deed : (List ℕ → ℕ → Deed) → List ℕ → Option (Deed × List ℕ)
hold_deed made t = do
  x ← hold_at t
  Some (made x.0 x.1, x.2)

-- a schedule in parentheses
unfoldable pub schedule_at : List ℕ → Option (Schedule × List ℕ)
schedule_at t = do
  b ← stripped (codes " (") t
  schedule ← schedule_of_bytes (until 41 b)
  r ← stripped (codes ")") (from 41 b)
  Some (schedule, r)

unfoldable pub destroyed_at : List ℕ → Option (Deed × List ℕ)
destroyed_at t = do
  n ← number_at greatest_record t
  a ← stripped (codes " as due by ") n.1
  day ← day_at a
  schedule ← schedule_at day.1
  Some (Destroyed n.0 day.0 schedule.0, schedule.1)

-- what follows a path: nothing, or a schedule after a comma
unfoldable pub own_at : List ℕ → Option (Option Schedule)
own_at [] = Some None
own_at (c ∷ cs) = do
  r ← stripped (codes ", ") (c ∷ cs)
  s ← schedule_of_bytes r
  Some (Some s)

abbrev pub row_at : Bool → List ℕ → Option Row
row_at is_open t = do
  own ← own_at (from 44 t)
  Some (record { path = until 44 t; is_open = is_open; schedule = own })

abbrev pub row_from : Option (List ℕ) → List ℕ → Option Row
row_from None t = row_at true t
row_from (Some r) t = row_at false r

-- a class, after the semicolon before it
unfoldable pub row_of : List ℕ → Option Row
row_of part = do
  t ← stripped (codes " ") part
  row_from (stripped (codes "closed ") t) t

unfoldable pub rows_of : List (List ℕ) → Option (List Row)
rows_of [] = Some []
rows_of (p ∷ ps) = do
  r ← row_of p
  rs ← rows_of ps
  Some (r ∷ rs)

unfoldable pub plan_from : List (List ℕ) → Option Listing
plan_from [] = None
plan_from (p ∷ ps) = do
  root ← schedule_of_bytes p
  rows ← rows_of ps
  Some (record { root = root; rows = rows })

unfoldable pub plan_at : List ℕ → Option (Listing × List ℕ)
plan_at t = do
  r ← stripped (codes "root ") (until 41 t)
  plan ← plan_from (parts_at 59 r)
  q ← stripped (codes ")") (from 41 t)
  Some (plan, q)

unfoldable pub plan_deed : (Listing → Deed) → List ℕ → Option (Deed × List ℕ)
plan_deed made t = do
  x ← plan_at t
  Some (made x.0, x.1)

unfoldable pub message_at : List ℕ → Option (Deed × List ℕ)
message_at t = do
  n ← number_at greatest_record t
  r ← stripped (codes " ") n.1
  seal ← seal_at r
  Some (FoundMessage n.0 seal.0, seal.1)

unfoldable pub state_of : List ℕ → Option Bool
state_of w = if bytes_eq w (codes "live") then Some false else if bytes_eq w (codes "destroyed") then Some true else None

-- the path, the day and the state of a record
unfoldable pub place_at : List ℕ → Option (List ℕ × ℕ × Bool × List ℕ)
place_at t = do
  a ← stripped (codes " in ") t
  b ← stripped (codes " on ") (from 32 a)
  day ← day_at b
  c ← stripped (codes " ") day.1
  destroyed ← state_of (until 32 c)
  Some (until 32 a, day.0, destroyed, from 32 c)

unfoldable pub record_at : List ℕ → Option (Deed × List ℕ)
record_at t = do
  n ← number_at greatest_record t
  a ← stripped (codes " of message ") n.1
  message ← number_at greatest_record a
  place ← place_at message.1
  Some (FoundRecord (record { number = n.0; message = message.0; path = place.0; day = place.1; destroyed = place.2 }), place.3)

-- ---- deeds and lines

-- where the text begins so, what is read after it, or else the other
abbrev pub case : {Y : Type 0} → Option (List ℕ) → (List ℕ → Option Y) → Option Y → Option Y
case None read other = other
case (Some r) read other = read r

unfoldable pub found_at : List ℕ → Option (Deed × List ℕ)
found_at t = case (stripped (codes "plan (") t) (plan_deed FoundPlan)
    (case (stripped (codes "message ") t) message_at
    (case (stripped (codes "record ") t) record_at
    (case (stripped (codes "hold ") t) (hold_deed FoundHold) None)))

unfoldable pub added_at : List ℕ → Option (Deed × List ℕ)
added_at t = Some (ClassAdded (until 32 t), from 32 t)

-- whether reasons are required from now on
unfoldable pub reasons_at : List ℕ → Option (Deed × List ℕ)
reasons_at t = case (stripped (codes "required") t) (λ r. Some (ReasonsRequired, r))
    (case (stripped (codes "optional") t) (λ r. Some (ReasonsOptional, r)) None)

unfoldable pub accepted_at : List ℕ → Option (Deed × List ℕ)
accepted_at t = case (stripped (codes "accepted findings") t) (λ r. Some (FindingsAccepted, r)) None

unfoldable pub made_at : List ℕ → Option (Deed × List ℕ)
made_at t = case (stripped (codes "made reasons ") t) reasons_at (accepted_at t)

unfoldable pub plan_change_at : List ℕ → Option (Deed × List ℕ)
plan_change_at t = case (stripped (codes "added class ") t) added_at
    (case (stripped (codes "replaced plan (") t) (plan_deed PlanReplaced)
    (case (stripped (codes "titled ") t) titled_at
    (case (stripped (codes "found ") t) found_at (made_at t))))

unfoldable pub deed_at : List ℕ → Option (Deed × List ℕ)
deed_at t = case (stripped (codes "captured ") t) captured_at
    (case (stripped (codes "held ") t) (hold_deed Held)
    (case (stripped (codes "released ") t) (hold_deed Released)
    (case (stripped (codes "destroyed ") t) destroyed_at
    (case (stripped (codes "refiled ") t) refiled_at (plan_change_at t)))))

-- the reason, to the end of the line
unfoldable pub reason_at : List ℕ → Option (List ℕ)
reason_at [] = Some []
reason_at (c ∷ cs) = stripped (codes " : ") (c ∷ cs)

abbrev pub notes_at : List ℕ → Option (List ℕ × List ℕ)
notes_at [] = Some ([], [])
notes_at (c ∷ cs) = do
  r ← stripped (codes " ") (c ∷ cs)
  reason ← reason_at (from 32 r)
  Some (until 32 r, reason)

-- the notes and the reason
unfoldable pub ending_at : List ℕ → Option (List ℕ × List ℕ)
ending_at t = case (stripped (codes " : ") t) (λ r. Some ([], r)) (notes_at t)

-- the number and the event
unfoldable pub event_at : List ℕ → Option (ℕ × Event)
event_at line = do
  number ← number_at greatest_number line
  a ← stripped (codes " ") number.1
  moment ← moment_of (until 32 a)
  b ← stripped (codes " ") (from 32 a)
  c ← stripped (codes " ") (from 32 b)
  deed ← deed_at c
  ending ← ending_at deed.1
  Some (number.0, record { moment = moment; who = until 32 b; deed = deed.0; notes = ending.0; reason = ending.1 })
