-- The day by which records are to be destroyed.
use Rattle.std.specs.Prelude.{◌≡◌, ℕ, if◌then◌else◌, List, ◌++◌, codes, Option, Some, None, Result, Ok, Err}
use Rattle.jiff.specs.Words.{date_text}
use Rattle.jiff_core.specs.declared.civil.date.Date.{Date}
use Rattle.cli_console.specs.Days.{is_by}
use Rattle.cli_texts.specs.Words.{words}

-- THE DAY OF A DISPOSAL, where it is today: the one that is typed, and today where none is. One that has not come yet is refused.
abbrev pub day_asked : (typed : Option Date) → (today : Date) → Result Date Date
day_asked None today = Ok today
day_asked (Some day) today = if is_by (Some day) today then Ok day else Err day

-- the same by the clock, of whose day no contract knows more
abbrev pub IsDayAsked : (typed : Option Date) → (day : Date) → Type 0
IsDayAsked typed day = (today : Date) × (day_asked typed today ≡ Ok day)

-- a day has not come yet
abbrev pub not_come_words : Date → List ℕ
not_come_words day = words (date_text day) ++ words (codes ": this day has not come yet")

-- the same of the day of a disposal
unfoldable pub not_yet_words : Date → List ℕ
not_yet_words day = not_come_words day ++ words (codes "; report --day shows what will be due by it")
