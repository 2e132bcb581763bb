-- A text without its comments (RFC 5322, section 3.2.2): each is in parentheses, may have others in it, and a backslash in it takes
-- the octet after it as it is. A space takes its place.
use Rattle.std.specs.Prelude.{ℕ, ◌+◌, ◌-◌, Bool, true, false, List, [], ◌∷◌, Option, Some, None, option_map, not, ◌==◌, ◌&&◌, if◌then◌else◌}

-- in how many comments the text goes on after an octet that stands in so many
abbrev pub depth_after : (depth : ℕ) → (is_escaped : Bool) → ℕ → ℕ
depth_after depth is_escaped c = if is_escaped then depth
    else (if c == 40 then depth + 1 else (if c == 41 then depth - 1 else depth))

-- whether the next octet is taken as it is
abbrev pub escapes : (depth : ℕ) → (is_escaped : Bool) → ℕ → Bool
escapes depth is_escaped c = not (depth == 0) && not is_escaped && (c == 92)

-- what is seen of an octet that stands in so many comments
abbrev pub seen : (depth : ℕ) → ℕ → Option ℕ
seen depth c = if depth == 0 then (if c == 40 then Some 32 else Some c) else None

-- a text with what is seen of the octet before it
abbrev pub behind : Option ℕ → List ℕ → List ℕ
behind None text = text
behind (Some c) text = c ∷ text

-- THE TEXT WITHOUT COMMENTS, where it begins in so many of them; none where one of them does not end
unfoldable pub uncommented : (depth : ℕ) → (is_escaped : Bool) → List ℕ → Option (List ℕ)
uncommented depth is_escaped [] = if depth == 0 then Some [] else None
uncommented depth is_escaped (c ∷ rest) =
    option_map (behind (seen depth c)) (uncommented (depth_after depth is_escaped c) (escapes depth is_escaped c) rest)

abbrev pub without_comments : List ℕ → Option (List ℕ)
without_comments text = uncommented 0 false text
