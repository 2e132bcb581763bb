-- The weight of commands of the tree, as it is added up from left to right.
use Rattle.std.specs.Prelude.{◌≡◌, ℕ, ◌+◌, ◌<◌, ◌≤◌, List, Bool, true, false, Option, MatchOption}
use Rattle.sieve_syntax.specs.Tree.{CommandTree, command, CommandTrees}
use Rattle.sieve_syntax.specs.declared.tree.Argument.{Argument}
use Rattle.sieve_meaning.specs.declared.words.CommandWord.{CommandWord}
use Rattle.sieve_meaning.specs.declared.words.CommandWord.TheVariants as words
use Rattle.sieve_meaning.specs.Words.{command_word}
use Rattle.sieve_meaning.specs.Program.{Include}
use Rattle.sieve_meaning.specs.Reading.{only_in, block_in, program_of, branches_of, include_of}
use Rattle.sieve_meaning.specs.Weight.{test_weight, weight, branches_weight}
use Rattle.sieve_meaning.specs.declared.branches.BranchPart.{BranchPart}
use Rattle.sieve_meaning.specs.declared.branches.BranchPart.TheVariants.{Branch, Otherwise, Plain}

-- what is left once the amount taken is subtracted, or None where less was left
abbrev pub IsLeft : (left taken : ℕ) → Option ℕ → Type 0
IsLeft left taken o = MatchOption o (left < taken) (λ rest. rest + taken ≡ left)

-- the weight, or None where it is above the limit
abbrev pub IsWeightUpTo : (limit weight : ℕ) → Option ℕ → Type 0
IsWeightUpTo limit weight o = MatchOption o (limit < weight) (λ w. (w ≡ weight) × (w ≤ limit))

-- of a command that has no block; an `elsif` or `else` without open branches weighs nothing, nor does a command of
-- another name
abbrev pub plain_weight : (Include → ℕ) → CommandWord → List Argument → ℕ
plain_weight w words.If args = 0
plain_weight w words.ElsIf args = 0
plain_weight w words.Else args = 0
plain_weight w words.Other args = 0
plain_weight w words.Include args = 4 + w (include_of args)
plain_weight w word args = 4

-- of a command by its part
abbrev pub part_weight : (Include → ℕ) → BranchPart → CommandTree → ℕ
part_weight w Branch (command name args inner finish) = 4 + test_weight (only_in inner) + weight w (block_in finish)
part_weight w Otherwise (command name args inner finish) = 4 + weight w (block_in finish)
part_weight w Plain (command name args inner finish) = plain_weight w (command_word name) args

-- of commands; where branches are open, also of the branches at their beginning that continue them
abbrev pub weight_from : (Include → ℕ) → (is_open : Bool) → CommandTrees → ℕ
weight_from w true cs = branches_weight w (branches_of cs) + weight w (program_of cs)
weight_from w false cs = weight w (program_of cs)
