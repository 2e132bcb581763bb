-- A test of a rule as a question on messages.
use Rattle.std.specs.Prelude.{◌≡◌, ℕ, Bool, true, false, codes, List, [], ◌∷◌, Option, Some, None, Result, Ok, Err}
use Rattle.sieve_syntax.specs.Tree.{TestTree, InnerTests, one_test, CommandTree, command, EndingTree, block, CommandTrees, no_commands, command_then}
use Rattle.sieve_syntax.specs.View.{tree_of}
use Rattle.sieve_text.specs.Questions.{IsTest, ExplainsTest}
use Rattle.sieve_text.specs.declared.fault.TextFault.TheVariants as texts
use Rattle.sieve_check.specs.Rules.{refusal_of}
use Rattle.sieve_check.specs.Faults.{number_of}
use Rattle.sieve_meaning.specs.Program.{Test, always}
use Rattle.sieve_meaning.specs.Reading.{only_in}
use Rattle.sieve_meaning.specs.Truth.{truth}
use Rattle.mail_case.specs.Message.{case_of, is_among}
use Rattle.record_question.specs.declared.fault.QuestionFault.{QuestionFault}
use Rattle.record_question.specs.declared.fault.QuestionFault.TheVariants as faults
use Rattle.record_question.specs.declared.question.TestQuestion.{TestQuestion}

-- the script `if TEST { }` (RFC 5228, section 3.1)
abbrev pub rule : TestTree → CommandTrees
rule t = command_then (command (codes "if") [] (one_test t) (block no_commands)) no_commands

-- THE TEXT IS A QUESTION: exactly one test, which the checker of rules accepts
abbrev pub IsQuestion : List ℕ → TestTree → Type 0
IsQuestion text t = IsTest text t × (refusal_of (rule t) ≡ None)

-- the test of the first command
abbrev pub asked_in : CommandTrees → Test
asked_in no_commands = always false
asked_in (command_then (command name args inner finish) more) = only_in inner

-- the test that a question asks
abbrev pub test_asked : TestQuestion → Test
test_asked q = asked_in (tree_of q.rule.script)

-- no class is open; a test sees none
abbrev pub no_class : List ℕ → Bool
no_class = is_among []

-- THE ANSWER is yes for a message in whose case the test is true, as rules have it
abbrev pub is_yes : TestQuestion → List ℕ → Bool
is_yes q message = truth (case_of message no_class) (test_asked q)

-- a question is read, unless memory ran out
abbrev pub IsRead : Result TestQuestion QuestionFault → Type 0
IsRead (Ok q) = Unit {0}
IsRead (Err faults.NoMemory) = Unit {0}
IsRead (Err (faults.Text refusal at)) = ⊥
IsRead (Err (faults.Test fault)) = ⊥

-- what a fault says of the text
abbrev pub ExplainsQuestion : List ℕ → QuestionFault → Type 0
ExplainsQuestion text faults.NoMemory = Unit {0}
ExplainsQuestion text (faults.Text refusal at) = ExplainsTest text (texts.Refused refusal at)
ExplainsQuestion text (faults.Test fault) = (t : TestTree) × IsTest text t × (refusal_of (rule t) ≡ Some (number_of fault))
