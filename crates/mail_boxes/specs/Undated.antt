-- Lines of an mbox that look like separators, and have no date.
use Rattle.std.specs.Prelude.{◌≡◌, ℕ, ◌+◌, ◌-◌, ◌^◌, min, Bool, true, not, ◌&&◌, List, [], ◌∷◌, ◌++◌, length, Option, Some, None, if◌then◌else◌}
use Rattle.std.specs.Option.{option_or}
use Rattle.mail_boxes.specs.Marks.{begins_with_from, is_empty_line, is_separator}
use Rattle.mail_boxes.specs.declared.undated.UndatedLines.{UndatedLines}

-- a line that begins with "From ", and is no separator since it has no date
abbrev pub is_undated : List ℕ → Bool
is_undated line = begins_with_from line && not (is_separator line)

-- the number of a line, where it stands after an empty one and is undated
abbrev pub found_at : ℕ → (after_empty : Bool) → List ℕ → List ℕ
found_at number after_empty line = if after_empty && is_undated line then number ∷ [] else []

-- THE NUMBERS OF THE LINES that stand after an empty line and are undated, where the first of these lines has this number
unfoldable pub undated : (number : ℕ) → (after_empty : Bool) → List (List ℕ) → List ℕ
undated number after_empty [] = []
undated number after_empty (line ∷ lines) =
    found_at number after_empty line ++ undated (number + 1) (is_empty_line line) lines

-- the last of these lines is empty; where there is none, the one before them
unfoldable pub end_empty : (after_empty : Bool) → List (List ℕ) → Bool
end_empty after_empty [] = after_empty
end_empty after_empty (line ∷ lines) = end_empty (is_empty_line line) lines

abbrev pub first_of : List ℕ → Option ℕ
first_of [] = None
first_of (number ∷ numbers) = Some number

-- WHAT IS NOTED OF THE FIRST LINES of a file: of those that are undated, the number of the first one, counted from 1, and how
-- many there are, up to the greatest number of 64 bits; and what the next line has to be judged by
pub record HasRead (lines : List (List ℕ)) (u : UndatedLines) : Type 0 where
  pub first : u.first ≡ first_of (undated 1 true lines)
  pub count : u.count ≡ min (length (undated 1 true lines)) (2 ^ 64 - 1)
  pub next : u.next ≡ length lines + 1
  pub after_empty : u.after_empty ≡ end_empty true lines

-- with the next line among them
abbrev pub noted : UndatedLines → UndatedLines
noted u = record u { first = option_or u.first (Some u.next); count = min (u.count + 1) (2 ^ 64 - 1) }
