-- Whether a message has given texts in its fields.
use Rattle.std.specs.Prelude.{ℕ, Bool, true, false, List, Option, Some, None, ◌&&◌, ◌||◌, sum, map, if◌then◌else◌}
use Rattle.std.specs.List.{list_any}
use Rattle.sieve_meaning.specs.declared.matching.Comparator.TheVariants.{Octet}
use Rattle.sieve_meaning.specs.Matching.{contains}
use Rattle.mail_head.specs.Fields.{fields_of}
use Rattle.mail_display.specs.declared.groups.FieldGroup.{FieldGroup}
use Rattle.mail_display.specs.declared.groups.FieldGroup.TheVariants.{Sender, Recipient, Subject}
use Rattle.mail_display.specs.declared.question.Seen.{Seen}
use Rattle.mail_display.specs.Display.{display_text, display_unread}
use Rattle.mail_display.specs.Comparing.{comparable}
use Rattle.mail_display.specs.Groups.{group_of}

-- the texts of a question, as they are compared
pub record Asked : Type 0 where
  pub sender : Option (List ℕ)
  pub recipient : Option (List ℕ)
  pub subject : Option (List ℕ)

-- the text that fields of a group are to have
abbrev pub key_of : Asked → FieldGroup → Option (List ℕ)
key_of q Sender = q.sender
key_of q Recipient = q.recipient
key_of q Subject = q.subject

-- the text of a body, as it is compared, contains the key
abbrev pub has_key : List ℕ → List ℕ → Bool
has_key key body = contains Octet key (comparable (display_text body))

-- what a field of a group adds: the group, if the field has the group's text, and how much could not be read
abbrev pub finding_by : FieldGroup → Option (List ℕ) → List ℕ → Option FieldGroup × ℕ
finding_by group None body = (None, 0)
finding_by group (Some key) body = (if has_key key body then Some group else None, display_unread body)

abbrev pub finding_in : Asked → Option FieldGroup → List ℕ → Option FieldGroup × ℕ
finding_in q None body = (None, 0)
finding_in q (Some group) body = finding_by group (key_of q group) body

-- what a field adds to an answer
unfoldable pub finding : Asked → List ℕ × List ℕ → Option FieldGroup × ℕ
finding q field = finding_in q (group_of field.0) field.1

abbrev pub is_group : FieldGroup → Option FieldGroup → Bool
is_group group None = false
is_group Sender (Some Sender) = true
is_group Recipient (Some Recipient) = true
is_group Subject (Some Subject) = true
is_group group (Some other) = false

abbrev pub with_group : Option FieldGroup → Seen → Seen
with_group None seen = seen
with_group (Some Sender) seen = record seen { sender = true }
with_group (Some Recipient) seen = record seen { recipient = true }
with_group (Some Subject) seen = record seen { subject = true }

abbrev pub is_unasked : Option (List ℕ) → Bool
is_unasked None = true
is_unasked (Some key) = false

-- the texts that are not asked for
abbrev pub unasked : Asked → Seen
unasked q = record { sender = is_unasked q.sender; recipient = is_unasked q.recipient; subject = is_unasked q.subject }

-- each text was seen, or is not asked for
abbrev pub is_all : Seen → Bool
is_all seen = (seen.sender && seen.recipient) && seen.subject

-- a group's text is not asked for, or one of the fields has it
abbrev pub holds : Asked → FieldGroup → List (List ℕ × List ℕ) → Bool
holds q group fields = is_unasked (key_of q group) || list_any (λ f. is_group group (finding q f).0) fields

-- each text that is asked for stands in one of the message's fields of its group
unfoldable pub asks : Asked → List ℕ → Bool
asks q message = (holds q Sender (fields_of message) && holds q Recipient (fields_of message)) &&
    holds q Subject (fields_of message)

-- how much of the fields that are looked at could not be read
unfoldable pub unread_in : Asked → List ℕ → ℕ
unread_in q message = sum (map (λ f. (finding q f).1) (fields_of message))
