-- Classes of octets (RFC 5228, section 8.1).
use Rattle.std.specs.Prelude.{ℕ, suc, Bool, false, List, [], ◌∷◌, ◌==◌, ◌&&◌, ◌||◌, not, if◌then◌else◌}
use Rattle.std.specs.Char.{is_ascii_alphabetic, is_ascii_digit}

-- space and tab
abbrev pub is_blank : ℕ → Bool
is_blank b = (b == 32) || (b == 9)

-- blanks and the octets of line ends
abbrev pub is_white : ℕ → Bool
is_white b = is_blank b || ((b == 10) || (b == 13))

-- an identifier begins with a letter or "_"
abbrev pub is_start : ℕ → Bool
is_start b = is_ascii_alphabetic b || (b == 95)

-- and continues with letters, digits and "_"
abbrev pub is_word : ℕ → Bool
is_word b = is_start b || is_ascii_digit b

-- in a quoted string, an octet that is its own value, whatever comes before it
abbrev pub is_plain : ℕ → Bool
is_plain b = not ((b == 92) || (b == 10))

abbrev pub not_lf : ℕ → Bool
not_lf b = not (b == 10)

-- the first octet is one of these
abbrev pub begins : (ℕ → Bool) → List ℕ → Bool
begins p [] = false
begins p (b ∷ bs) = p b

-- the first octet is this one
abbrev pub begins_with : ℕ → List ℕ → Bool
begins_with octet = begins (λ b. b == octet)

-- the length in octets of the line end that begins here, LF or CR LF; 0 where none begins
abbrev pub line_end_len : List ℕ → ℕ
line_end_len [] = 0
line_end_len (b ∷ bs) = if b == 10 then 1 else if (b == 13) && begins_with 10 bs then 2 else 0

-- octet 0, or a CR without LF
abbrev pub is_stray : ℕ → List ℕ → Bool
is_stray b bs = (b == 0) || ((b == 13) && not (begins_with 10 bs))

-- how many octets come before the first stray one, or all there are
unfoldable pub stray_len : List ℕ → ℕ
stray_len [] = 0
stray_len (b ∷ bs) = if is_stray b bs then 0 else suc (stray_len bs)
