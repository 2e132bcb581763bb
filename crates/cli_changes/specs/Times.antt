-- Times as they are told.
use Rattle.std.specs.Prelude.{◌≡◌, ◌⊎◌, ℕ, ◌/◌, ◌%◌, ◌==◌, if◌then◌else◌, Bool, true, false, List, [], ◌++◌, codes}
use Rattle.cli_texts.specs.Words.{number, words}

-- a number below 100
abbrev pub two_digits : ℕ → List ℕ
two_digits n = number (n / 10) ++ number (n % 10)

-- THE TIME OF DAY of a moment in seconds since 1970, as `09:00:03`
unfoldable pub time_words : (moment : ℕ) → List ℕ
time_words moment =
    two_digits (moment % 86400 / 3600) ++ words (codes ":") ++ two_digits (moment % 86400 % 3600 / 60) ++ words (codes ":")
    ++ two_digits (moment % 86400 % 60)

-- WHAT A LINE OF A LOG BEGINS WITH: the time of day, of which no contract knows more, where that is asked for and there is a clock
abbrev pub IsStart : (has_times : Bool) → (start : List ℕ) → Type 0
IsStart false start = start ≡ []
IsStart true start = (start ≡ []) ⊎ ((moment : ℕ) × (start ≡ time_words moment ++ words (codes " ")))

-- a text is added after that, as a line of a log
abbrev pub IsLogged : (has_times : Bool) → (said before after : List ℕ) → Type 0
IsLogged has_times said before after = (start : List ℕ) × IsStart has_times start × (after ≡ before ++ start ++ said)

-- so many seconds
abbrev pub seconds_words : ℕ → List ℕ
seconds_words n = number n ++ words (if n == 1 then codes " second" else codes " seconds")

-- A MESSAGE TOOK LONGER, and is not captured
unfoldable pub too_slow_words : (seconds : ℕ) → List ℕ
too_slow_words n = words (codes "the message took more than ") ++ seconds_words n ++ words (codes " and is not captured")

-- the same of one that stays
unfoldable pub too_slow_reason : (seconds : ℕ) → List ℕ
too_slow_reason n = words (codes "it took more than ") ++ seconds_words n
