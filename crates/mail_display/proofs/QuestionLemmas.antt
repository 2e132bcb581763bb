-- A question, field by field.
use Rattle.std.proofs.Common.{◌≡◌, ℕ, ◌+◌, ◌≤◌, Bool, true, false, List, [], length, refl, sym, ap, ◌∙◌, arith}
use Rattle.std.specs.Prelude.{◌&&◌, ◌||◌, sum, map}
use Rattle.std.specs.List.{list_any}
use Rattle.mail_head.specs.Fields.{fields_of}
use Rattle.mail_display.specs.declared.groups.FieldGroup.{FieldGroup}
use Rattle.mail_display.specs.declared.groups.FieldGroup.TheVariants.{Sender, Recipient, Subject}
use Rattle.mail_display.specs.declared.question.Seen.{Seen}
use Rattle.mail_display.specs.Question.{Asked, finding, is_group, is_all, unasked, holds, asks, unread_in}

-- a text was found so far, or is found among the fields that are left
abbrev pub found_in : Asked → FieldGroup → Bool → List (List ℕ × List ℕ) → Bool
found_in q group seen fields = seen || list_any (λ f. is_group group (finding q f).0) fields

-- what was seen, and the rest of the message; the two determine the whole
pub record Judging (q : Asked) (message rest : List ℕ) (seen : Seen) (unread : ℕ) : Type 0 where
  pub sender : found_in q Sender seen.sender (fields_of rest) ≡ holds q Sender (fields_of message)
  pub recipient : found_in q Recipient seen.recipient (fields_of rest) ≡ holds q Recipient (fields_of message)
  pub subject : found_in q Subject seen.subject (fields_of rest) ≡ holds q Subject (fields_of message)
  pub count : unread + sum (map (λ f. (finding q f).1) (fields_of rest)) ≡ unread_in q message
  pub few : unread + length rest ≤ length message

pub Judging-none : (q : Asked) (message : List ℕ) → Judging q message message (unasked q) 0
unfolding unread_in
Judging-none q message = record { sender = refl; recipient = refl; subject = refl; count = omega arith; few = omega arith }

found_none : (t : Bool) → t || false ≡ t
found_none true = refl
found_none false = refl

pub Judging-done : (q : Asked) (message rest : List ℕ) (seen : Seen) (unread : ℕ) → Judging q message rest seen unread
    → fields_of rest ≡ [] → is_all seen ≡ asks q message
unfolding asks
Judging-done q message rest seen unread h e =
    let sender : seen.sender ≡ holds q Sender (fields_of message) = sym (found_none seen.sender)
    ∙ ap (found_in q Sender seen.sender) (sym e) ∙ h.sender in
    let recipient : seen.recipient ≡ holds q Recipient (fields_of message) = sym (found_none seen.recipient)
    ∙ ap (found_in q Recipient seen.recipient) (sym e) ∙ h.recipient in
    let subject : seen.subject ≡ holds q Subject (fields_of message) = sym (found_none seen.subject)
    ∙ ap (found_in q Subject seen.subject) (sym e) ∙ h.subject in
    ap (λ t. (t && seen.recipient) && seen.subject) sender
    ∙ ap (λ t. (holds q Sender (fields_of message) && t) && seen.subject) recipient
    ∙ ap (λ t. (holds q Sender (fields_of message) && holds q Recipient (fields_of message)) && t) subject
