-- What a script that belongs to no officer captures in a case.
use Rattle.std.specs.Prelude.{◌≡◌, ℕ, List, [], None}
use Rattle.sieve_syntax.specs.Tree.{CommandTrees}
use Rattle.sieve_meaning.specs.declared.outcome.Outcome.{Outcome}
use Rattle.sieve_meaning.specs.Case.{Facts}
use Rattle.sieve_meaning.specs.Outcome as meaning
use Rattle.sieve_meaning.specs.Reading.{program_of}
use Rattle.sieve_library.specs.Libraries.{NamedScript}
use Rattle.desk_commands.specs.Parts.{IsGood}
use Rattle.desk_commands.specs.Scripts.{library, meanings_of}

-- The octets are a script whose tree is well made, and this is its outcome in the case. It can include these global
-- scripts and no personal one, and it has no name.
pub record IsOutcomeOf (globals : List NamedScript) (text : List ℕ) (facts : Facts) (o : Outcome) : Type 0 where
  pub tree : CommandTrees
  pub good : IsGood text tree
  pub outcome : o ≡ meaning.outcome facts (library [] (meanings_of globals)) None (program_of tree)
