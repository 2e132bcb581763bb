-- What a question has to do with rules.
use Rattle.std.specs.Prelude.{◌≡◌, ℕ, Bool, List, [], ◌∷◌, Option, None, codes, if◌then◌else◌}
use Rattle.class_paths.specs.Path.{unfiled}
use Rattle.sieve_syntax.specs.Tree.{TestTree, no_tests, one_test, CommandTree, command, semicolon, block, CommandTrees, no_commands, command_then}
use Rattle.sieve_meaning.specs.Program.{Test}
use Rattle.sieve_meaning.specs.Reading.{test_in, program_of}
use Rattle.sieve_meaning.specs.Truth.{truth}
use Rattle.sieve_meaning.specs.Meaning.{Library, meaning}
use Rattle.sieve_meaning.specs.Outcome.{outcome_of}
use Rattle.mail_case.specs.Message.{case_of}
use Rattle.record_question.specs.Questions.{no_class}

-- the truth of a test is the same, whatever classes are open
abbrev pub TestsSeeNoClass : Type 0
TestsSeeNoClass = (message : List ℕ) (f g : List ℕ → Bool) (t : Test) → truth (case_of message f) t ≡ truth (case_of message g) t

-- the block `{ NAME; }`
abbrev pub only_command : List ℕ → CommandTrees
only_command name = command_then (command name [] no_tests semicolon) no_commands

-- the script `if TEST { keep; } else { discard; }` (RFC 5228, sections 3.1, 4.3 and 4.4)
abbrev pub keeping_rule : TestTree → CommandTrees
keeping_rule t = command_then (command (codes "if") [] (one_test t) (block (only_command (codes "keep"))))
    (command_then (command (codes "else") [] no_tests (block (only_command (codes "discard")))) no_commands)

-- the rule keeps a message, in the default class, exactly where the answer is yes, and otherwise files it nowhere
abbrev pub FindsWhatIsKept : Type 0
FindsWhatIsKept = (message : List ℕ) (is_open : List ℕ → Bool) (library : Library) (known_as : Option (List ℕ)) (t : TestTree)
    → outcome_of (meaning (case_of message is_open) library known_as (program_of (keeping_rule t)))
    ≡ record { classes = if truth (case_of message no_class) (test_in t) then unfiled ∷ [] else []; fault = None }
