-- The values of strings (RFC 5228, section 2.4.2).
use Rattle.std.specs.Prelude.{ℕ, suc, Bool, true, false, List, [], ◌∷◌, length, Result, Ok, Err, nat_lt, ◌==◌, ◌&&◌, ◌||◌, not, codes, if◌then◌else◌}
use Rattle.std.specs.List.{prefix_len}
use Rattle.std.specs.Char.{to_ascii_lowercase}
use Rattle.sieve_text.specs.Octets.{not_lf, begins_with, line_end_len}
use Rattle.sieve_text.specs.declared.fault.ScanRefusal.{ScanRefusal}
use Rattle.sieve_text.specs.declared.fault.ScanRefusal.TheVariants.{NoToken, StringNotClosed}

-- a bare LF is read as CR LF
unfoldable pub with_crlf : Bool → List ℕ → List ℕ
with_crlf after_cr [] = []
with_crlf after_cr (b ∷ bs) = if (b == 10) && not after_cr then 13 ∷ 10 ∷ with_crlf false bs
    else b ∷ with_crlf (b == 13) bs

-- after a quotation mark: how many octets come before the first quotation mark that no backslash escapes, or all there
-- are
unfoldable pub quoted_len : Bool → List ℕ → ℕ
quoted_len escaped [] = 0
quoted_len true (b ∷ bs) = suc (quoted_len false bs)
quoted_len false (b ∷ bs) = if b == 34 then 0 else suc (quoted_len (b == 92) bs)

-- a backslash is dropped, and the octet after it is kept
unfoldable pub without_escapes : Bool → List ℕ → List ℕ
without_escapes escaped [] = []
without_escapes true (b ∷ bs) = b ∷ without_escapes false bs
without_escapes false (b ∷ bs) = if b == 92 then without_escapes true bs else b ∷ without_escapes false bs

-- the value of the octets between quotation marks
abbrev pub quoted_value : List ℕ → List ℕ
quoted_value body = with_crlf false (without_escapes false body)

-- "text:", in letters of either case
abbrev pub begins_as : List ℕ → List ℕ → Bool
begins_as [] bs = true
begins_as (x ∷ xs) [] = false
begins_as (x ∷ xs) (b ∷ bs) = (to_ascii_lowercase b == x) && begins_as xs bs

abbrev pub begins_text : List ℕ → Bool
begins_text bs = begins_as (codes "text:") bs

-- after the blanks that follow "text:": the length in octets of an optional hash comment and the line end
abbrev pub opening_end_at : List ℕ → Result ℕ ScanRefusal
opening_end_at bs =
    if length bs == 0 then Err StringNotClosed
    else if begins_with 35 bs
    then (if nat_lt (prefix_len not_lf bs) (length bs) then Ok (suc (prefix_len not_lf bs)) else Err StringNotClosed)
    else if nat_lt 0 (line_end_len bs) then Ok (line_end_len bs) else Err NoToken

-- at a line's start: a dot and then a line end or the text's end
abbrev pub is_last_line : List ℕ → Bool
is_last_line [] = false
is_last_line (b ∷ bs) = (b == 46) && ((length bs == 0) || nat_lt 0 (line_end_len bs))

-- how many octets come before the line that is a single dot, or all there are; the flag says whether a line begins here
unfoldable pub lines_len : Bool → List ℕ → ℕ
lines_len at_start [] = 0
lines_len at_start (b ∷ bs) = if at_start && is_last_line (b ∷ bs) then 0 else suc (lines_len (b == 10) bs)

-- a line's leading dot is dropped where another dot follows it
unfoldable pub without_stuffing : Bool → List ℕ → List ℕ
without_stuffing at_start [] = []
without_stuffing at_start (b ∷ bs) = if (at_start && (b == 46)) && begins_with 46 bs then without_stuffing false bs
    else b ∷ without_stuffing (b == 10) bs

-- the value of the lines of a multi-line string
abbrev pub lines_value : List ℕ → List ℕ
lines_value lines = with_crlf false (without_stuffing true lines)
