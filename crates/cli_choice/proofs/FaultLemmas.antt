-- Why what is typed asks nothing.
use Rattle.std.proofs.Common.{◌≡◌, sym, refl, subst, ℕ, Bool, true, false, ◌&&◌, true≢false, List, Option, Some, None, Bor}
use Rattle.std.specs.Prelude.{is_none}
use Rattle.choice_words.specs.declared.choice.Choice.{Choice as Words}
use Rattle.mail_display.specs.Asking.{IsFaultIn, first_blank}
use Rattle.mail_display.specs.declared.question.FieldQuestionFault.{FieldQuestionFault}
use Rattle.mail_display.specs.declared.question.FieldQuestionFault.TheVariants as texts
use Rattle.record_question.specs.declared.fault.QuestionFault.{QuestionFault}
use Rattle.record_question.specs.declared.fault.QuestionFault.TheVariants as tests
use Rattle.record_question.specs.Questions.{ExplainsQuestion}
use Rattle.cli_choice.specs.Faults.{of_test, of_fields, blank_typed, ExplainsTyped, Explains}
use Rattle.cli_choice.specs.Questions.{types_no_texts}

typed_explained : (o : Option (Bor (List ℕ))) (text : Bor (List ℕ)) (why : QuestionFault) → o ≡ Some text → ExplainsQuestion text.now why
    → ExplainsTyped o why
typed_explained o text why is h = let P : Option (Bor (List ℕ)) → Type 0 = λ p. ExplainsTyped p why in subst P (sym is) h

pub test_explained : (c : Words) (text : Bor (List ℕ)) (why : QuestionFault) → c.test ≡ Some text → ExplainsQuestion text.now why
    → Explains c (of_test why)
test_explained c text tests.NoMemory is h = tt
test_explained c text (tests.Text refusal at) is h = typed_explained c.test text (tests.Text refusal at) is h
test_explained c text (tests.Test fault) is h = typed_explained c.test text (tests.Test fault) is h

pub fields_explained : (c : Words) (why : FieldQuestionFault) → IsFaultIn (blank_typed c) why → Explains c (of_fields why)
fields_explained c (texts.Empty group) h = h
fields_explained c (texts.NoMemory e) h = tt

no_blank : (s r u : Option (Bor (List ℕ))) → (is_none s && is_none r && is_none u) ≡ true → first_blank s r u ≡ None
no_blank None None None h = refl
no_blank None None (Some u) h = absurd (true≢false (sym h))
no_blank None (Some r) u h = absurd (true≢false (sym h))
no_blank (Some s) r u h = absurd (true≢false (sym h))

pub none_blank : (c : Words) → types_no_texts c ≡ true → blank_typed c ≡ None
none_blank c h = no_blank c.sender c.recipient c.subject h
