-- The lines of events in a volume, on worked rows.
use Rattle.std.proofs.Common.{◌≡◌, ℕ, List, Option, Some, None, codes, refl}
use Rattle.std.specs.Fmt.{digits}
use Rattle.cli_texts.specs.HistoryLines.{line_in}
use Rattle.cli_texts.specs.declared.history_lines.NumberPlaces.{NumberPlaces}

abbrev places : (record_at message_at : Option ℕ) → NumberPlaces
places record_at message_at = record { of_record = record_at; of_message = message_at }

held : line_in (Some 3) (places (Some 5) None) (codes "17 2031-01-01T09:30:00Z ann held audit 4 : 5 boxes")
    ≡ codes "3/17 2031-01-01T09:30:00Z ann held audit 3/4 : 5 boxes"
unfolding digits
held = refl

found : line_in (Some 12) (places (Some 5) (Some 8))
    (codes "6 2031-01-01T09:30:00Z ann found record 2 of message 1 in unfiled on 2031-01-01 live")
    ≡ codes "12/6 2031-01-01T09:30:00Z ann found record 12/2 of message 12/1 in unfiled on 2031-01-01 live"
unfolding digits
found = refl

about_no_record : line_in (Some 3) (places None None) (codes "2 2031-01-01T09:30:00Z ann made reasons required")
    ≡ codes "3/2 2031-01-01T09:30:00Z ann made reasons required"
unfolding digits
about_no_record = refl

-- two blanks stay, and an empty line gets its volume
blanks_stay : line_in (Some 3) (places None None) (codes "2  a ") ≡ codes "3/2  a "
unfolding digits
blanks_stay = refl

no_word : line_in (Some 3) (places None None) (codes "") ≡ codes "3/"
unfolding digits
no_word = refl

of_no_volume : line_in None (places (Some 5) None) (codes "17 2031-01-01T09:30:00Z ann held audit 4")
    ≡ codes "17 2031-01-01T09:30:00Z ann held audit 4"
of_no_volume = refl
