-- The fields of a message (RFC 5322, section 2.2), read leniently. Blanks may stand between a field's name and its
-- colon, which section 4.5 has as obsolete. A body may hold any octet, and an LF where the next line folds. A logical
-- line of the header that is no field is passed over.
use Rattle.std.specs.Prelude.{ℕ, Bool, false, List, [], ◌∷◌, Option, Some, None, nat_lt, nat_le, ◌==◌, ◌&&◌, not, take, drop, if◌then◌else◌}
use Rattle.std.specs.List.{prefix_len, filter_map}
use Rattle.mail_head.specs.Lines.{is_blank, raw_lines, without_end, header_lines, logical_lines}

-- An octet of a field's name (RFC 5322, section 2.2): 33 to 126 without the colon.
abbrev pub is_name_octet : ℕ → Bool
is_name_octet b = (nat_le 33 b && nat_le b 126) && not (b == 58)

abbrev pub begins_with : ℕ → List ℕ → Bool
begins_with c [] = false
begins_with c (b ∷ bs) = b == c

-- The field that a logical line is: a name of one octet or more, blanks, a colon, and the body. The body has its inner
-- line ends, but not the end of its last line.
unfoldable pub field_of : List ℕ → Option (List ℕ × List ℕ)
field_of line =
    let name = prefix_len is_name_octet line in
    let after = drop name line in
    let rest = drop (prefix_len is_blank after) after in
    if (nat_lt 0 name && begins_with 58 rest) then Some (take name line, without_end (drop 1 rest)) else None

-- The fields of a message (RFC 5322, section 2.2) in order, each with its name and its body.
unfoldable pub fields_of : List ℕ → List (List ℕ × List ℕ)
fields_of message = filter_map field_of (logical_lines (header_lines (raw_lines message)))
