-- A field's body as one line (RFC 5322, section 2.2.3), without the blanks at its ends.
use Rattle.std.specs.Prelude.{◌≡◌, ℕ, ◌-◌, Bool, true, false, List, [], ◌∷◌, ◌++◌, length, take, drop, nat_lt, slice_index, ◌==◌, ◌&&◌, ◌||◌, if◌then◌else◌}
use Rattle.std.specs.List.{prefix_len, suffix_len}

-- space or tab: white space in RFC 5322, section 2.2
abbrev pub is_blank : ℕ → Bool
is_blank b = (b == 32) || (b == 9)

abbrev pub begins_with : ℕ → List ℕ → Bool
begins_with c [] = false
begins_with c (b ∷ bs) = b == c

abbrev pub is_nil : List ℕ → Bool
is_nil [] = true
is_nil (b ∷ bs) = false

abbrev pub ends_in : ℕ → List ℕ → Bool
ends_in c bs = nat_lt 0 (length bs) && (slice_index bs (length bs - 1) == c)

-- the octets without one CR at the end
abbrev pub without_cr : List ℕ → List ℕ
without_cr bs = if ends_in 13 bs then take (length bs - 1) bs else bs

-- the first octet belongs to a line end: an LF, or a CR directly before one
abbrev pub begins_line_end : List ℕ → Bool
begins_line_end [] = false
begins_line_end (b ∷ bs) = (b == 10) || ((b == 13) && begins_with 10 bs)

-- a folded text as one line (RFC 5322, section 2.2.3): every LF, with one CR directly before it, is removed
unfoldable pub without_line_ends : List ℕ → List ℕ
without_line_ends [] = []
without_line_ends (b ∷ bs) = if (b == 10) || ((b == 13) && begins_with 10 bs) then without_line_ends bs else b ∷ without_line_ends bs

-- the first octet that is kept, and the text after it
abbrev pub IsFirstOctet : List ℕ → ℕ → List ℕ → Type 0
IsFirstOctet text octet following = (ends : List ℕ) × (text ≡ ends ++ octet ∷ following) ×
    (without_line_ends text ≡ octet ∷ without_line_ends following)

abbrev pub without_first_blanks : List ℕ → List ℕ
without_first_blanks bs = drop (prefix_len is_blank bs) bs

abbrev pub without_last_blanks : List ℕ → List ℕ
without_last_blanks bs = take (length bs - suffix_len is_blank bs) bs

-- without the blanks at both ends
abbrev pub without_outer_blanks : List ℕ → List ℕ
without_outer_blanks bs = without_last_blanks (without_first_blanks bs)
