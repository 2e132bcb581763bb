-- The greatest lengths of payloads, in octets, and the limits of captures in flight.
use Rattle.std.specs.Prelude.{ℕ}

abbrev pub greatest_script : ℕ
greatest_script = 262144

abbrev pub greatest_message : ℕ
greatest_message = 8388608

-- the greatest length of a plan's text
abbrev pub greatest_plan : ℕ
greatest_plan = 1048576

abbrev pub greatest_image : ℕ
greatest_image = 16777216

-- the most captures in flight
abbrev pub most_in_flight : ℕ
most_in_flight = 64

-- the last ticket
abbrev pub last_ticket : ℕ
last_ticket = 4294967295

-- the last second of 2199, counted from 1970-01-01T00:00:00Z
abbrev pub last_moment : ℕ
last_moment = 7258118399

-- the last day of 9999, counted from 1970-01-01
abbrev pub last_day : ℕ
last_day = 2932896
