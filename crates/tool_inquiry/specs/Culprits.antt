-- The commands with which a run can end in a fault.
use Rattle.std.specs.Prelude.{◌≡◌, ℕ, List, Bool, true, false, Option, Some, None, is_some}
use Rattle.sieve_syntax.specs.declared.tree.Argument.{Argument}
use Rattle.sieve_syntax.specs.declared.tree.Command.{Command}
use Rattle.sieve_meaning.specs.Case.{Facts}
use Rattle.sieve_meaning.specs.Program.{Include}
use Rattle.sieve_meaning.specs.Reading.{first_string, string_lists, include_of}
use Rattle.sieve_meaning.specs.Words.{command_word}
use Rattle.sieve_meaning.specs.declared.run_fault.RunFault.{RunFault}
use Rattle.sieve_meaning.specs.declared.run_fault.RunFault.TheVariants.{ClassNotOpen, ScriptMissing, RecursiveInclude, NestingTooDeep, TooHeavy}
use Rattle.sieve_meaning.specs.declared.words.CommandWord.{CommandWord}
use Rattle.sieve_meaning.specs.declared.words.CommandWord.TheVariants as words
use Rattle.sieve_library.specs.Libraries.{Scripts, script_under, location_of}

-- an include finds a script
abbrev pub is_found : Scripts → Include → Bool
is_found l i = is_some (script_under i.name (location_of i.global l))

-- an include that can end a run in this fault: of a script that is not there and need be (RFC 6609, section 3.1), or of one
-- that is there, and would include itself or be the ninth
abbrev pub IncludeEndsIn : Scripts → RunFault → Include → Type 0
IncludeEndsIn l ClassNotOpen i = ⊥
IncludeEndsIn l ScriptMissing i = (is_found l i ≡ false) × (i.optional ≡ false)
IncludeEndsIn l RecursiveInclude i = is_found l i ≡ true
IncludeEndsIn l NestingTooDeep i = is_found l i ≡ true
IncludeEndsIn l TooHeavy i = ⊥

-- a `fileinto` that ends a run in this fault: of a class that is not open (RFC 5228, section 4.1)
abbrev pub FilingEndsIn : Facts → RunFault → (path : List ℕ) → Type 0
FilingEndsIn facts ClassNotOpen path = facts.is_open path ≡ false
FilingEndsIn facts ScriptMissing path = ⊥
FilingEndsIn facts RecursiveInclude path = ⊥
FilingEndsIn facts NestingTooDeep path = ⊥
FilingEndsIn facts TooHeavy path = ⊥

-- what a run knows of the message and which scripts there are, and a command of this word with these arguments
abbrev pub WordEndsIn : Facts → Scripts → RunFault → CommandWord → List Argument → Type 0
WordEndsIn facts l fault words.FileInto args = FilingEndsIn facts fault (first_string (string_lists false args))
WordEndsIn facts l fault words.Include args = IncludeEndsIn l fault (include_of args)
WordEndsIn facts l fault word args = ⊥

-- a command with which a run can end in this fault
abbrev pub EndsIn : Facts → Scripts → RunFault → Command → Type 0
EndsIn facts l fault c = WordEndsIn facts l fault (command_word c.name) c.arguments
