-- Moments as they are told.
use Rattle.std.specs.Prelude.{◌≡◌, ℕ, ◌+◌, ◌/◌, ◌%◌, ◌<◌, ◌≤◌, List, [], ◌∷◌, ◌++◌, pos, codes, decimal}
use Rattle.jiff.specs.Words.{date_text, epoch_day}
use Rattle.jiff_core.specs.declared.civil.date.Date.{Date}

-- 2199-12-31T23:59:59Z, in seconds since 1970-01-01T00:00:00Z
abbrev pub last_moment : ℕ
last_moment = 7258118399

-- a number below 100
abbrev pub two_digits : ℕ → List ℕ
two_digits n = (48 + n / 10) ∷ (48 + n % 10) ∷ []

-- the time of day, as `T22:13:20Z`
abbrev pub time_text : (seconds : ℕ) → List ℕ
time_text s =
    codes "T" ++ two_digits (s / 3600) ++ codes ":" ++ two_digits (s / 60 % 60) ++ codes ":" ++ two_digits (s % 60) ++ codes "Z"

-- a day with the time of a moment
abbrev pub day_and_time : Date → (moment : ℕ) → List ℕ
day_and_time day moment = date_text day ++ time_text (moment % 86400)

-- THE TEXT OF A MOMENT in UTC, as `2023-11-14T22:13:20Z`; its seconds where it is after 2199
pub record IsMomentText (moment : ℕ) (text : List ℕ) : Type 0 where
  pub told : moment ≤ last_moment → (day : Date) × (epoch_day day ≡ pos (moment / 86400)) × (text ≡ day_and_time day moment)
  pub later : last_moment < moment → text ≡ decimal moment
