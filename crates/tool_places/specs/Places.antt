-- Lines and columns, octet by octet.
use Rattle.std.specs.Prelude.{ℕ, List, ◌+◌, if◌then◌else◌}
use Rattle.tool_texts.specs.declared.places.Place.{Place}
use Rattle.tool_texts.specs.Places.{line_of, column_of, is_line_feed}

-- the place of an offset in a text
abbrev pub place_at : List ℕ → ℕ → Place
place_at text offset = record { line = line_of text offset; column = column_of text offset }

-- the place after an octet
abbrev pub past : Place → ℕ → Place
past p b = if is_line_feed b then record { line = p.line + 1; column = 1 } else record { line = p.line; column = p.column + 1 }
