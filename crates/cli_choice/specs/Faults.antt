-- Why what is typed asks nothing.
use Rattle.std.specs.Prelude.{◌≡◌, ℕ, List, Option, Some, None, Result, IfErr}
use Rattle.std.specs.Borrow.{Bor}
use Rattle.choice_words.specs.declared.choice.Choice.{Choice as Words}
use Rattle.mail_display.specs.Asking.{first_blank}
use Rattle.mail_display.specs.declared.groups.FieldGroup.{FieldGroup}
use Rattle.mail_display.specs.declared.question.FieldQuestionFault.{FieldQuestionFault}
use Rattle.mail_display.specs.declared.question.FieldQuestionFault.TheVariants as texts
use Rattle.record_question.specs.declared.fault.QuestionFault.{QuestionFault}
use Rattle.record_question.specs.declared.fault.QuestionFault.TheVariants as tests
use Rattle.record_question.specs.Questions.{ExplainsQuestion}
use Rattle.cli_choice.specs.declared.questions.QuestionsFault.{QuestionsFault}
use Rattle.cli_choice.specs.declared.questions.QuestionsFault.TheVariants as faults

-- a fault of a test, and one of the texts
abbrev pub of_test : QuestionFault → QuestionsFault
of_test tests.NoMemory = faults.NoMemory
of_test (tests.Text refusal at) = faults.Test (tests.Text refusal at)
of_test (tests.Test fault) = faults.Test (tests.Test fault)

abbrev pub of_fields : FieldQuestionFault → QuestionsFault
of_fields (texts.Empty group) = faults.EmptyText group
of_fields (texts.NoMemory e) = faults.NoMemory

-- the group of the first text that is typed for fields and is blank
abbrev pub blank_typed : Words → Option FieldGroup
blank_typed c = first_blank c.sender c.recipient c.subject

-- a test is typed, and it is refused for this
abbrev pub ExplainsTyped : Option (Bor (List ℕ)) → QuestionFault → Type 0
ExplainsTyped None fault = ⊥
ExplainsTyped (Some text) fault = ExplainsQuestion text.now fault

-- WHY WHAT IS TYPED ASKS NOTHING: its test is none, or none that a rule may have; a text for fields is blank, and the first such
-- one is for this group; or there is no memory
abbrev pub Explains : Words → QuestionsFault → Type 0
Explains c (faults.Test tests.NoMemory) = ⊥
Explains c (faults.Test (tests.Text refusal at)) = ExplainsTyped c.test (tests.Text refusal at)
Explains c (faults.Test (tests.Test fault)) = ExplainsTyped c.test (tests.Test fault)
Explains c (faults.EmptyText group) = blank_typed c ≡ Some group
Explains c faults.NoMemory = Unit {0}

-- where what is typed is refused, the fault says why
abbrev pub IsExplained : {X : Type 0} → Words → Result X QuestionsFault → Type 0
IsExplained c result = IfErr result (Explains c)
