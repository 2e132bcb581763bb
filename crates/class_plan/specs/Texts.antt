-- Schedules as texts: `permanent`, or a count, a unit and an action with single spaces between them.
-- One space and `year-end` may follow.
use Rattle.std.specs.Prelude.{ℕ, ◌+◌, ◌-◌, ◌*◌, nat_le, ◌<◌, ◌==◌, Bool, true, false, ◌&&◌, if◌then◌else◌, List, [], ◌∷◌, ◌++◌, drop, codes, Option, Some, None, option_and_then}
use Rattle.std.specs.Str.{bytes_eq}
use Rattle.std.specs.List.{before_first, after_first, position_or_len}
use Rattle.std.specs.Fmt.{decimal}
use Rattle.class_plan.specs.declared.schedules.Unit.{Unit as TimeUnit}
use Rattle.class_plan.specs.declared.schedules.Unit.TheVariants.{Days, Months, Years}
use Rattle.class_plan.specs.declared.schedules.Action.{Action}
use Rattle.class_plan.specs.declared.schedules.Action.TheVariants.{Review, Transfer, Destroy}
use Rattle.class_plan.specs.declared.schedules.Schedule.{Schedule}
use Rattle.class_plan.specs.declared.schedules.Schedule.TheVariants.{Permanent, After}
use Rattle.class_plan.specs.Schedules.{most}

-- a decimal number whose first digits make n
abbrev pub count_from : ℕ → List ℕ → Option ℕ
count_from n [] = Some n
count_from n (c ∷ cs) = if nat_le 48 c && nat_le c 57 then count_from (n * 10 + (c - 48)) cs else None

-- a decimal number without leading zeros
abbrev pub count_of : List ℕ → Option ℕ
count_of [] = None
count_of (c ∷ cs) = if c == 48 then None else count_from 0 (c ∷ cs)

abbrev pub unit_of : List ℕ → Option TimeUnit
unit_of t = if bytes_eq t (codes "days") then Some Days else if bytes_eq t (codes "months") then Some Months
    else if bytes_eq t (codes "years") then Some Years else None

abbrev pub action_of : List ℕ → Option Action
action_of t = if bytes_eq t (codes "review") then Some Review else if bytes_eq t (codes "transfer") then Some Transfer
    else if bytes_eq t (codes "destroy") then Some Destroy else None

infixl 10 ◌>>=◌
abbrev pub ◌>>=◌ : {A B : Type 0} → Option A → (A → Option B) → Option B
o >>= f = option_and_then f o

abbrev pub is_space : ℕ → Bool
is_space c = c == 32

-- what follows an action: nothing, or one space and `year-end`
abbrev pub year_end_of : List ℕ → Option Bool
year_end_of t = if bytes_eq t [] then Some false else if bytes_eq t (codes " year-end") then Some true else None

-- the text from the first space on
abbrev pub from_space : List ℕ → List ℕ
from_space t = drop (position_or_len is_space t) t

-- an action, and whether `year-end` follows
abbrev pub ending_of : List ℕ → Option (Action × Bool)
ending_of t = do
  x ← action_of (before_first is_space t)
  y ← year_end_of (from_space t)
  Some (x, y)

-- the schedule of a count, a unit and an ending, where each is well made and the count in its
-- unit's range
unfoldable pub period_of : List ℕ → List ℕ → List ℕ → Option Schedule
period_of a b c = do
  n ← count_of a
  u ← unit_of b
  x ← ending_of c
  if nat_le 1 n && nat_le n (most u) then Some (After n u x.0 x.1) else None

-- the schedule of a text
unfoldable pub schedule_of_bytes : List ℕ → Option Schedule
schedule_of_bytes t = if bytes_eq t (codes "permanent") then Some Permanent
    else (let rest = after_first is_space t in period_of (before_first is_space t) (before_first is_space rest)
    (after_first is_space rest))

abbrev pub unit_word : TimeUnit → List ℕ
unit_word Days = codes "days"
unit_word Months = codes "months"
unit_word Years = codes "years"

abbrev pub action_word : Action → List ℕ
action_word Review = codes "review"
action_word Transfer = codes "transfer"
action_word Destroy = codes "destroy"

-- what follows the action in a schedule's text
abbrev pub year_end_text : Bool → List ℕ
year_end_text false = []
year_end_text true = codes " year-end"

-- the text of a schedule
abbrev pub text_of : Schedule → List ℕ
text_of Permanent = codes "permanent"
text_of (After n u x y) = decimal n ++ 32 ∷ (unit_word u ++ 32 ∷ (action_word x ++ year_end_text y))

-- no number, or one above all ranges
abbrev pub IsLargeOrNone : Option ℕ → Type 0
IsLargeOrNone None = Unit {0}
IsLargeOrNone (Some n) = 366000 < n
