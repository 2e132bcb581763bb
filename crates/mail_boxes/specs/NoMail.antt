-- Octets that are no message, though any octets could be one.
use Rattle.std.specs.Prelude.{◌≡◌, ℕ, Bool, true, false, not, List, [], ◌∷◌, drop, nat_lt, ◌==◌, ◌&&◌, ◌||◌, Option, Some, None, if◌then◌else◌}
use Rattle.std.specs.List.{prefix_len}
use Rattle.mail_head.specs.Fields.{is_name_octet, begins_with, fields_of}
use Rattle.mail_head.specs.Lines.{raw_lines}
use Rattle.mail_boxes.specs.Marks.{is_empty_line, is_separator}
use Rattle.mail_boxes.specs.declared.judging.NoMail.{NoMail}
use Rattle.mail_boxes.specs.declared.judging.NoMail.TheVariants.{Empty, Mbox, NoField}

-- a name of a field and its colon
abbrev pub begins_with_field : List ℕ → Bool
begins_with_field line = nat_lt 0 (prefix_len is_name_octet line) && begins_with 58 (drop (prefix_len is_name_octet line) line)

-- the lines begin with a separator and a field
abbrev pub begin_message : List (List ℕ) → Bool
begin_message (a ∷ b ∷ rest) = is_separator a && begins_with_field b
begin_message _ = false

-- somewhere an empty line stands before a separator and a field
unfoldable pub have_another : List (List ℕ) → Bool
have_another [] = false
have_another (line ∷ lines) = (is_empty_line line && begin_message lines) || have_another lines

-- AN MBOX OF TWO MESSAGES OR MORE
abbrev pub is_mbox : List ℕ → Bool
is_mbox octets = begin_message (raw_lines octets) && have_another (raw_lines octets)

abbrev pub is_none_of : {X : Type 0} → List X → Bool
is_none_of [] = true
is_none_of (_ ∷ _) = false

-- why octets are no message
abbrev pub no_mail : List ℕ → Option NoMail
no_mail [] = Some Empty
no_mail (c ∷ rest) = if is_mbox (c ∷ rest) then Some Mbox
    else (if is_none_of (fields_of (c ∷ rest)) then Some NoField else None)
