-- What may come between tokens: white space and comments (RFC 5228, sections 2.2 and 2.3).
use Rattle.std.specs.Prelude.{ℕ, suc, zero, ◌+◌, ◌-◌, Bool, false, List, [], ◌∷◌, length, drop, nat_lt, ◌==◌, ◌&&◌, if◌then◌else◌}
use Rattle.std.specs.List.{prefix_len}
use Rattle.sieve_text.specs.Octets.{is_white, not_lf, begins_with}

-- after "/*": how many octets come before the slash of the first "*/", or all there are
unfoldable pub bracketed_len : Bool → List ℕ → ℕ
bracketed_len after_star [] = 0
bracketed_len after_star (b ∷ bs) = if after_star && (b == 47) then 0 else suc (bracketed_len (b == 42) bs)

-- "/*"
abbrev pub opens_bracketed : List ℕ → Bool
opens_bracketed [] = false
opens_bracketed (b ∷ bs) = (b == 47) && begins_with 42 bs

-- after "/*": the length of the comment in octets, its "/*" included; 0 where it is not closed
abbrev pub closed_len : List ℕ → ℕ
closed_len body = if nat_lt (bracketed_len false body) (length body) then bracketed_len false body + 3 else 0

-- the length in octets of the comment that begins here; 0 where none begins, or where it is not closed. A hash comment
-- ends before its line's LF, or with the text
unfoldable pub comment_len : List ℕ → ℕ
comment_len bs = if begins_with 35 bs then prefix_len not_lf bs else if opens_bracketed bs then closed_len (drop 2 bs)
    else 0

-- the length in octets of white space and closed comments; the number is how many of the first octets are inside a
-- comment
unfoldable pub gap_len : ℕ → List ℕ → ℕ
gap_len inside [] = 0
gap_len (suc n) (b ∷ bs) = suc (gap_len n bs)
gap_len zero (b ∷ bs) = if is_white b then suc (gap_len 0 bs) else if nat_lt 0 (comment_len (b ∷ bs))
    then suc (gap_len (comment_len (b ∷ bs) - 1) bs) else 0
