-- Which fields people mean by a sender, a recipient and a subject (RFC 5322, section 3.6).
use Rattle.std.specs.Prelude.{ℕ, Bool, List, map, codes, Option, Some, None, ◌||◌, if◌then◌else◌}
use Rattle.std.specs.Char.{to_ascii_lowercase}
use Rattle.std.specs.Str.{bytes_eq}
use Rattle.mail_display.specs.declared.groups.FieldGroup.{FieldGroup}
use Rattle.mail_display.specs.declared.groups.FieldGroup.TheVariants.{Sender, Recipient, Subject}

-- names of fields are equal in any case of their letters (RFC 5322, section 2.2)
abbrev pub is_called : List ℕ → List ℕ → Bool
is_called name other = bytes_eq (map to_ascii_lowercase name) (map to_ascii_lowercase other)

abbrev pub is_in_group : FieldGroup → List ℕ → Bool
is_in_group Sender name = is_called name (codes "from") || is_called name (codes "sender") ||
    is_called name (codes "resent-from") || is_called name (codes "resent-sender")
is_in_group Recipient name = is_called name (codes "to") || is_called name (codes "cc") ||
    is_called name (codes "bcc") || is_called name (codes "resent-to") || is_called name (codes "resent-cc") ||
    is_called name (codes "resent-bcc")
is_in_group Subject name = is_called name (codes "subject")

-- the group of the fields of a name
abbrev pub group_of : List ℕ → Option FieldGroup
group_of name =
    if is_in_group Sender name then Some Sender
    else if is_in_group Recipient name then Some Recipient
    else if is_in_group Subject name then Some Subject
    else None
