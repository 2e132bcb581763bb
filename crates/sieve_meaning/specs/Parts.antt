-- The role of commands in the program: where an `elsif` or `else` belongs to the branches before it, and where it
-- belongs to none (RFC 5228, section 3.1).
use Rattle.std.specs.Prelude.{◌≡◌, ℕ, true, false, List}
use Rattle.sieve_syntax.specs.Tree.{InnerTests, command, EndingTree, CommandTrees, command_then as tree_then}
use Rattle.sieve_syntax.specs.declared.tree.Argument.{Argument}
use Rattle.sieve_meaning.specs.declared.branches.BranchPart.TheVariants.{Branch, Otherwise}
use Rattle.sieve_meaning.specs.Branching.{part_of}
use Rattle.sieve_meaning.specs.Program.{branch, command_then, no_branch, otherwise, if_then}
use Rattle.sieve_meaning.specs.Reading.{only_in, program_of, branches_of, block_in}
use Rattle.sieve_meaning.specs.Words.{command_word}

-- for a command before others
pub record IsPart (name : List ℕ) (args : List Argument) (inner : InnerTests) (finish : EndingTree)
    (more : CommandTrees) : Type 0 where
  -- a branch where none are open begins branches, and those that follow belong to it
  pub begins : part_of (command_word name) false ≡ Branch →
      program_of (tree_then (command name args inner finish) more) ≡
      command_then (branch (if_then (only_in inner) (block_in finish) (branches_of more))) (program_of more)
  -- a branch only where some are open continues them
  pub goes_on : part_of (command_word name) true ≡ Branch → (part_of (command_word name) false ≡ Branch → ⊥) →
      branches_of (tree_then (command name args inner finish) more) ≡
      if_then (only_in inner) (block_in finish) (branches_of more)
  -- an `else` is the last of them
  pub ends : part_of (command_word name) true ≡ Otherwise →
      branches_of (tree_then (command name args inner finish) more) ≡ otherwise (block_in finish)
  -- a command whose part is the same whether some are open or not ends them
  pub stays : part_of (command_word name) true ≡ part_of (command_word name) false →
      branches_of (tree_then (command name args inner finish) more) ≡ no_branch
  -- where none are open, a command that needs open branches does nothing
  pub passes : (part_of (command_word name) true ≡ part_of (command_word name) false → ⊥) →
      program_of (tree_then (command name args inner finish) more) ≡ program_of more

abbrev pub PartLaw : Type 0
PartLaw = (name : List ℕ) (args : List Argument) (inner : InnerTests) (finish : EndingTree) (more : CommandTrees) →
    IsPart name args inner finish more
