-- Which moment a message gets.
use Rattle.std.specs.Prelude.{ℕ, Bool, List, [], ◌∷◌, map, codes, nat_le, ◌==◌, Option, Some, None, option_map, if◌then◌else◌}
use Rattle.std.specs.Char.{to_ascii_lowercase}
use Rattle.std.specs.List.{find}
use Rattle.std.specs.Option.{option_or}
use Rattle.std.specs.Str.{bytes_eq}
use Rattle.mail_head.specs.Fields.{fields_of}
use Rattle.mail_dates.specs.Moments.{moment_of}
use Rattle.mail_dates.specs.declared.dating.Dated.{Dated}
use Rattle.mail_dates.specs.declared.dating.Dated.TheVariants as is
use Rattle.mail_dates.specs.declared.dating.Dating.{Dating}
use Rattle.mail_dates.specs.declared.dating.Dating.TheVariants.{Received, Date, At}

-- a field's name is this one in any case of its letters
abbrev pub is_called : List ℕ → List ℕ → Bool
is_called name other = bytes_eq (map to_ascii_lowercase name) (map to_ascii_lowercase other)

-- the body of the first of these fields that has the name
abbrev pub body_called : List ℕ → List (List ℕ × List ℕ) → Option (List ℕ)
body_called name fields = option_map (λ f. f.1) (find (λ f. is_called f.0 name) fields)

-- what stands behind the last semicolon
unfoldable pub behind_semicolon : List ℕ → Option (List ℕ)
behind_semicolon [] = None
behind_semicolon (c ∷ rest) = option_or (behind_semicolon rest) (if c == 59 then Some rest else None)

-- a moment that a message may have, where the clock shows `now`
abbrev pub judged : ℕ → (now : ℕ) → Dated
judged moment now = if nat_le moment now then is.Moment moment else is.ToCome moment

-- the moment of a date, if there is one
abbrev pub dated_by : Option ℕ → (now : ℕ) → Dated
dated_by None now = is.NoDate
dated_by (Some moment) now = judged moment now

-- the moment of the body of a Date field, if there is one
abbrev pub by_date : Option (List ℕ) → (now : ℕ) → Dated
by_date None now = is.NoField
by_date (Some body) now = dated_by (moment_of body) now

-- the moment of what stands behind the last semicolon of a Received field, if it has one
abbrev pub by_last : Option (List ℕ) → (now : ℕ) → Dated
by_last None now = is.NoDate
by_last (Some text) now = dated_by (moment_of text) now

abbrev pub by_received : Option (List ℕ) → (now : ℕ) → Dated
by_received None now = is.NoField
by_received (Some body) now = by_last (behind_semicolon body) now

-- WHICH MOMENT A MESSAGE GETS
abbrev pub dated : Dating → List ℕ → (now : ℕ) → Dated
dated Received message now = by_received (body_called (codes "received") (fields_of message)) now
dated Date message now = by_date (body_called (codes "date") (fields_of message)) now
dated (At moment) message now = judged moment now
