-- Commands one after another.
use Rattle.std.proofs.Common.{◌≡◌, ℕ, List, Bool, true, false, refl, sym, ◌∙◌, map, drop, length, ◌≤◌}
use Rattle.std.proofs.lemmas.List.{at_drop_all}
use Rattle.sieve_syntax.specs.View.{command_of, commands_of}
use Rattle.sieve_syntax.specs.declared.tree.Command.{Command}
use Rattle.std.specs.Prelude.{if◌then◌else◌}
use Rattle.sieve_syntax.specs.Tree.{command, no_commands, InnerTests, EndingTree, semicolon, block}
use Rattle.sieve_syntax.specs.declared.tree.Argument.{Argument}
use Rattle.sieve_meaning.specs.declared.words.CommandWord.{CommandWord}
use Rattle.sieve_meaning.specs.declared.words.CommandWord.TheVariants as words
use Rattle.sieve_meaning.specs.Words.{command_word}
use Rattle.sieve_meaning.specs.Case.{Facts}
use Rattle.sieve_meaning.specs.Truth.{truth}
use Rattle.sieve_meaning.specs.Reading.{only_in, block_in, program_of, branches_of, include_of}
use Rattle.sieve_meaning.specs.Meaning as meaning
use Rattle.sieve_meaning.specs.Meaning.{Included, run, run_branches, and_then}
use Rattle.sieve_meaning.specs.Program.{Include}
use Rattle.sieve_evaluator.specs.Runs.{runs_from, IsNoIf, PlainlyEnds, BranchEnds, Ends, commands_in}
use Rattle.sieve_meaning.specs.Branching.{part_of}
use Rattle.sieve_meaning.specs.declared.branches.BranchPart.TheVariants.{Branch, Otherwise, Plain}

pub include_ends : (facts : Facts) (inc : Included) (word : CommandWord) (args : List Argument) (i : Include)
    (f : meaning.Filing) (e : meaning.Ending) → word ≡ words.Include → i ≡ include_of args → e ≡ inc i f
    → PlainlyEnds facts inc word args f e
include_ends facts inc word args i f e is asks told t inner rest more = rw (is, told, asks) refl

-- the commands of a block
pub block_in-commands : (finish : EndingTree) → block_in finish ≡ program_of (commands_in finish)
block_in-commands semicolon = refl
block_in-commands (block cs) = refl

-- what follows a choice follows each of its sides
and_then-if : (b : Bool) (x y : meaning.Ending) (go : meaning.Filing → meaning.Ending)
    → and_then (if b then x else y) go ≡ (if b then and_then x go else and_then y go)
and_then-if true x y go = refl
and_then-if false x y go = refl

-- a command before further ones
module _ (facts : Facts) (inc : Included) (name : List ℕ) (args : List Argument) (inner : InnerTests) (finish : EndingTree)
    (f : meaning.Filing) (e : meaning.Ending) where
  -- an `if`, or an open `elsif`
  pub branch_leads : (word : CommandWord) (is_open opens : Bool) → command_word name ≡ word → part_of word is_open ≡ Branch
      → BranchEnds facts inc (command name args inner finish) f e opens
      → Ends facts inc is_open (command name args inner finish) f e opens
  unfolding runs_from
  branch_leads words.If true opens is part told more = rw is (and_then-if (truth facts (only_in inner)) (run facts inc (block_in finish) f)
      (run_branches facts inc (branches_of more) f) (run facts inc (program_of more)) ∙ told more)
  branch_leads words.If false opens is part told more = rw is (and_then-if (truth facts (only_in inner)) (run facts inc (block_in finish) f)
      (run_branches facts inc (branches_of more) f) (run facts inc (program_of more)) ∙ told more)
  branch_leads words.ElsIf true opens is part told more = rw is (and_then-if (truth facts (only_in inner)) (run facts inc (block_in finish) f)
      (run_branches facts inc (branches_of more) f) (run facts inc (program_of more)) ∙ told more)
  branch_leads words.Else true opens is part told more = cc
  branch_leads word is_open opens is part told more = cc

  -- an open `else`
  pub otherwise_leads : (word : CommandWord) (is_open : Bool) → command_word name ≡ word → part_of word is_open ≡ Otherwise
      → e ≡ runs_from facts inc false (commands_in finish) f → Ends facts inc is_open (command name args inner finish) f e false
  unfolding runs_from
  otherwise_leads words.Else true is part told more = rw (is, told, block_in-commands finish) refl
  otherwise_leads words.Else false is part told more = cc
  otherwise_leads words.ElsIf true is part told more = cc
  otherwise_leads words.ElsIf false is part told more = cc
  otherwise_leads word is_open is part told more = cc

  -- any other command
  pub plain_leads : (word : CommandWord) (is_open : Bool) → command_word name ≡ word → part_of word is_open ≡ Plain
      → (IsNoIf word → PlainlyEnds facts inc word args f e) → Ends facts inc is_open (command name args inner finish) f e false
  unfolding runs_from
  plain_leads words.If is_open is part told more = cc
  plain_leads words.ElsIf true is part told more = cc
  plain_leads words.Else true is part told more = cc
  plain_leads word true is part told more = rw is (told tt (only_in inner) (block_in finish) (branches_of more) (program_of more))
  plain_leads word false is part told more = rw is (told tt (only_in inner) (block_in finish) (branches_of more) (program_of more))

-- without commands the run goes on
pub runs_from_none : (facts : Facts) (inc : Included) (is_open : Bool) (f : meaning.Filing)
    → runs_from facts inc is_open no_commands f ≡ meaning.GoesOn f
unfolding runs_from
runs_from_none facts inc true f = refl
runs_from_none facts inc false f = refl

-- a branch whose test is true
pub branch_taken : (facts : Facts) (inc : Included) (name : List ℕ) (args : List Argument) (inner : InnerTests)
    (finish : EndingTree) (f : meaning.Filing) (e : meaning.Ending) → truth facts (only_in inner) ≡ true
    → e ≡ runs_from facts inc false (commands_in finish) f
    → BranchEnds facts inc (command name args inner finish) f e false
unfolding runs_from
branch_taken facts inc name args inner finish f e holds told more = rw (holds, told, block_in-commands finish) refl

-- where all commands were run
pub runs_from_end : (facts : Facts) (inc : Included) (is_open : Bool) (xs : List Command) (i : ℕ) (f : meaning.Filing)
    (e : meaning.Ending) → length xs ≤ i → runs_from facts inc is_open (commands_of (map command_of (drop i xs))) f ≡ e
    → meaning.GoesOn f ≡ e
runs_from_end facts inc is_open xs i f e past told =
    sym (runs_from_none facts inc is_open f)
    ∙ sym (at_drop_all (λ ys. runs_from facts inc is_open (commands_of (map command_of ys)) f) xs i past) ∙ told
