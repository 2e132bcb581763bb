-- What a question is made of, and why it is refused.
use Rattle.std.specs.Prelude.{◌≡◌, ℕ, Bool, true, false, List, Option, Some, None, option_map, if◌then◌else◌}
use Rattle.std.specs.Borrow.{Bor}
use Rattle.mail_display.specs.declared.groups.FieldGroup.{FieldGroup}
use Rattle.mail_display.specs.declared.groups.FieldGroup.TheVariants.{Sender, Recipient, Subject}
use Rattle.mail_display.specs.declared.question.FieldQuestionFault.{FieldQuestionFault}
use Rattle.mail_display.specs.declared.question.FieldQuestionFault.TheVariants.{Empty, NoMemory}
use Rattle.mail_display.specs.Comparing.{is_blank, comparable}
use Rattle.mail_display.specs.Question.{Asked}

-- a text that may be given, as it is compared
abbrev pub compared_text : Option (Bor (List ℕ)) → Option (List ℕ)
compared_text text = option_map (λ t. comparable t.now) text

-- a text is given, and it is empty or has nothing but white space
abbrev pub is_blank_text : Option (Bor (List ℕ)) → Bool
is_blank_text None = false
is_blank_text (Some text) = is_blank text.now

-- the question
abbrev pub asked_of : Option (Bor (List ℕ)) → Option (Bor (List ℕ)) → Option (Bor (List ℕ)) → Asked
asked_of sender recipient subject =
    record { sender = compared_text sender; recipient = compared_text recipient; subject = compared_text subject }

-- the group of the first text that is blank
abbrev pub first_blank : Option (Bor (List ℕ)) → Option (Bor (List ℕ)) → Option (Bor (List ℕ)) → Option FieldGroup
first_blank sender recipient subject =
    if is_blank_text sender then Some Sender
    else if is_blank_text recipient then Some Recipient
    else if is_blank_text subject then Some Subject
    else None

-- a text of a group is refused: it is blank, or memory ran out
abbrev pub IsFaultOf : FieldGroup → Option (Bor (List ℕ)) → FieldQuestionFault → Type 0
IsFaultOf group text (Empty g) = (g ≡ group) × (is_blank_text text ≡ true)
IsFaultOf group text (NoMemory e) = Unit {0}

-- a question is refused: that is the first group whose text is blank, or memory ran out
abbrev pub IsFaultIn : Option FieldGroup → FieldQuestionFault → Type 0
IsFaultIn group (Empty g) = group ≡ Some g
IsFaultIn group (NoMemory e) = Unit {0}
