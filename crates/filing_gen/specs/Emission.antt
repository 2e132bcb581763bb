-- Commands of the tree, as their code is written from left to right.
use Rattle.std.specs.Prelude.{◌≡◌, ℕ, suc, ◌+◌, List, ◌∷◌, Bool, true, false, codes}
use Rattle.sieve_syntax.specs.Tree.{CommandTree, command, CommandTrees}
use Rattle.sieve_syntax.specs.declared.tree.Argument.{Argument}
use Rattle.sieve_meaning.specs.declared.words.CommandWord.{CommandWord}
use Rattle.sieve_meaning.specs.declared.words.CommandWord.TheVariants as words
use Rattle.sieve_meaning.specs.Words.{command_word}
use Rattle.sieve_meaning.specs.Program.{Test, Include, Command, require, keep, discard, stop, return, file_into, branch, include, Commands, no_command, command_then, Branches, no_branch, otherwise, if_then}
use Rattle.sieve_meaning.specs.Reading.{only_in, block_in, program_of, branches_of, string_lists, first_string, has_tag, include_of, header_of, match_type, comparator_from}
use Rattle.filing_flow.specs.Structure.{SetKept, SetCancelled, End, FileInto, Flow, nothing, action, sequence, block, leave, size}
use Rattle.filing_flow.specs.Code.{end_at}
use Rattle.filing_gen.specs.BlockCode.{test_flow, copy_number, flow, branches_flow, branch_flow}
use Rattle.filing_gen.specs.Adds.{Emits}
use Rattle.filing_gen.specs.Ends.{with_jumps}
use Rattle.filing_gen.specs.declared.output.Output.{Output}
use Rattle.sieve_meaning.specs.declared.branches.BranchPart.{BranchPart}
use Rattle.sieve_meaning.specs.declared.branches.BranchPart.TheVariants.{Branch, Otherwise, Plain}

-- the test `header` with these arguments
abbrev pub header_in : List Argument → Test
header_in args = header_of (match_type args) (comparator_from false args) (string_lists false args)

-- SIZES: the number of operations of commands, where w gives that of each include

abbrev mutual
  pub commands_long : (Include → ℕ) → Commands → ℕ
  commands_long w no_command = 0
  commands_long w (command_then x xs) = one_long w x + commands_long w xs

  pub one_long : (Include → ℕ) → Command → ℕ
  one_long w require = 0
  one_long w keep = 1
  one_long w discard = 1
  one_long w stop = 1
  one_long w return = 1
  one_long w (file_into copy path) = 1
  one_long w (branch bs) = branches_long w bs
  one_long w (include i) = w i

  pub branches_long : (Include → ℕ) → Branches → ℕ
  branches_long w no_branch = 0
  branches_long w (otherwise xs) = commands_long w xs
  branches_long w (if_then t xs bs) = size (test_flow t) + commands_long w xs + 2 + branches_long w bs

-- of a command that has no block
abbrev pub plain_long : (Include → ℕ) → CommandWord → List Argument → ℕ
plain_long w words.Keep args = 1
plain_long w words.Discard args = 1
plain_long w words.Stop args = 1
plain_long w words.Return args = 1
plain_long w words.FileInto args = 1
plain_long w words.Include args = w (include_of args)
plain_long w word args = 0

-- of a command by its part
abbrev pub part_long : (Include → ℕ) → BranchPart → CommandTree → ℕ
part_long w Branch (command name args inner finish) = size (test_flow (only_in inner)) + commands_long w
    (block_in finish) + 2
part_long w Otherwise (command name args inner finish) = commands_long w (block_in finish)
part_long w Plain (command name args inner finish) = plain_long w (command_word name) args

-- of commands; where branches are open, also of the branches at their beginning that continue them
abbrev pub long_from : (Include → ℕ) → (is_open : Bool) → CommandTrees → ℕ
long_from w true cs = branches_long w (branches_of cs) + commands_long w (program_of cs)
long_from w false cs = commands_long w (program_of cs)

-- CODE

-- of a `fileinto` with these arguments
abbrev pub file_flow : List Argument → Flow
file_flow args = action (FileInto (copy_number (has_tag (codes "copy") args)) (first_string (string_lists false args)))

-- of a command that has no block; an `elsif` or `else` without open branches has no code
abbrev pub plain_flow : (Include → Flow) → ℕ → CommandWord → List Argument → Flow
plain_flow g n words.Keep args = action SetKept
plain_flow g n words.Discard args = action SetCancelled
plain_flow g n words.Stop args = action End
plain_flow g n words.Return args = leave n
plain_flow g n words.FileInto args = action
    (FileInto (copy_number (has_tag (codes "copy") args)) (first_string (string_lists false args)))
plain_flow g n words.Include args = g (include_of args)
plain_flow g n word args = nothing

-- of a command by its part; a branch is in the block of all branches
abbrev pub part_flow : (Include → Flow) → ℕ → BranchPart → CommandTree → Flow
part_flow g n Branch (command name args inner finish) = branch_flow g (suc n) (only_in inner) (block_in finish)
part_flow g n Otherwise (command name args inner finish) = flow g (suc n) (block_in finish)
part_flow g n Plain (command name args inner finish) = plain_flow g n (command_word name) args

-- whether a command is none of the open branches before it: it begins others, or is no part of branches
abbrev pub is_apart : CommandWord → BranchPart → Bool
is_apart words.If part = true
is_apart word Plain = true
is_apart word part = false

-- the ends of the blocks around a part, where the branches end at a place
abbrev pub part_ends : BranchPart → (end : ℕ) → List ℕ → List ℕ
part_ends Branch end ends = end ∷ ends
part_ends Otherwise end ends = end ∷ ends
part_ends Plain end ends = ends

-- of commands; where branches are open, also of the branches at their beginning that continue them
abbrev pub rest_flow : (Include → Flow) → ℕ → (is_open : Bool) → CommandTrees → Flow
rest_flow g n true cs = sequence (block (branches_flow g (suc n) (branches_of cs))) (flow g n (program_of cs))
rest_flow g n false cs = flow g n (program_of cs)

-- The command was written by its part, where `return` goes to the place back.
abbrev pub EmitsPart : (Include → Flow) → (back : ℕ) → BranchPart → (end : ℕ) → CommandTree → Output → Output → Type 0
EmitsPart g back part end c x y = (n : ℕ) (ends : List ℕ) → end_at ends n ≡ back →
    Emits x y (part_flow g n part c) (part_ends part end ends)

-- The command was written by its part, and the place of its jump to the end of all branches was added to those of the
-- branches before it. The code is right wherever these jumps go.
abbrev pub EmitsOpen : (Include → Flow) → (back : ℕ) → BranchPart → CommandTree → Output → (before : List ℕ) → Output →
    (jumps : List ℕ) → Type 0
EmitsOpen g back part c x before y jumps = (end : ℕ) →
    EmitsPart g back part end c (with_jumps end before x) (with_jumps end jumps y)
