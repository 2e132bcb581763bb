-- What is asked of messages.
use Rattle.std.specs.Prelude.{◌≡◌, ℕ, Bool, true, false, not, ◌&&◌, nat_lt, is_none, List, Option, Some, None, if◌then◌else◌}
use Rattle.std.specs.Borrow.{Bor}
use Rattle.sieve_syntax.specs.Tree.{TestTree}
use Rattle.sieve_meaning.specs.Reading.{test_in}
use Rattle.choice_words.specs.declared.choice.Choice.{Choice as Words}
use Rattle.record_choice.specs.Choices.{Question, where_asked}
use Rattle.record_question.specs.declared.question.TestQuestion.{TestQuestion}
use Rattle.record_question.specs.Questions.{IsQuestion, test_asked, is_yes}
use Rattle.mail_display.specs.Asking.{asked_of}
use Rattle.mail_display.specs.Question.{Asked, asks, unread_in}
use Rattle.cli_choice.specs.declared.questions.Answer.{Answer}
use Rattle.cli_choice.specs.declared.questions.Answer.TheVariants.{Found, Unread, Lacking}
use Rattle.cli_choice.specs.declared.questions.Questions.{Questions}

-- the test of a text is asked, and none where no text is typed
abbrev pub IsTestTyped : Option (Bor (List ℕ)) → Option TestQuestion → Type 0
IsTestTyped None None = Unit {0}
IsTestTyped None (Some q) = ⊥
IsTestTyped (Some text) None = ⊥
IsTestTyped (Some text) (Some q) = (t : TestTree) × IsQuestion text.now t × (test_asked q ≡ test_in t)

abbrev pub types_no_texts : Words → Bool
types_no_texts c = is_none c.sender && is_none c.recipient && is_none c.subject

-- the texts are asked for, each in its fields, if any is typed
abbrev pub fields_typed : Words → Option Asked
fields_typed c = if types_no_texts c then None else Some (asked_of c.sender c.recipient c.subject)

-- the texts that are asked for stand in the message's fields
abbrev pub meets_fields : Option Asked → List ℕ → Bool
meets_fields fields message = where_asked (λ f. asks f message) fields

-- they do not, but fields could not be read in full
abbrev pub misses_fields : Option Asked → List ℕ → Bool
misses_fields None message = false
misses_fields (Some f) message = not (asks f message) && nat_lt 0 (unread_in f message)

-- THE MESSAGE HAS ALL that is asked
abbrev pub is_found : Questions → List ℕ → Bool
is_found q message = where_asked (λ t. is_yes t message) q.test && meets_fields q.fields message

-- THE MESSAGE MAY HAVE IT: it meets the test, and lacks a text, but fields of it could not be read in full
abbrev pub is_missed : Questions → List ℕ → Bool
is_missed q message = where_asked (λ t. is_yes t message) q.test && misses_fields q.fields message

abbrev pub asks_nothing : Questions → Bool
asks_nothing q = is_none q.test && is_none q.fields

-- as a question on records; where nothing is asked, a record without a message is found too
abbrev pub question_of : Questions → Question
question_of q = if asks_nothing q then None else Some (is_found q)

abbrev pub is_found_answer : Answer → Bool
is_found_answer Found = true
is_found_answer Unread = false
is_found_answer Lacking = false

abbrev pub is_unread_answer : Answer → Bool
is_unread_answer Found = false
is_unread_answer Unread = true
is_unread_answer Lacking = false
