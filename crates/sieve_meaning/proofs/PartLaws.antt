-- The role of the parts of branches in the program, by the words of commands.
use Rattle.std.proofs.Common.{◌≡◌, true, false, List, refl}
use Rattle.sieve_syntax.specs.declared.tree.Argument.{Argument}
use Rattle.sieve_meaning.specs.declared.branches.BranchPart.TheVariants.{Branch, Otherwise}
use Rattle.sieve_meaning.specs.declared.words.CommandWord.{CommandWord}
use Rattle.sieve_meaning.specs.declared.words.CommandWord.TheVariants.{If, ElsIf, Else}
use Rattle.sieve_meaning.specs.Branching.{part_of}
use Rattle.sieve_meaning.specs.Parts.{PartLaw}
use Rattle.sieve_meaning.specs.Program.{Test, Commands, Branches, branch, command_then, no_branch, otherwise, if_then}
use Rattle.sieve_meaning.specs.Reading.{command_named, branch_named, only_in, block_in, branches_of, program_of}
use Rattle.sieve_meaning.specs.Words.{command_word}

begins_named : (w : CommandWord) (args : List Argument) (t : Test) (inner : Commands) (rest : Branches)
    (more : Commands) → part_of w false ≡ Branch
    → command_named w args t inner rest more ≡ command_then (branch (if_then t inner rest)) more
begins_named If args t inner rest more e = refl
begins_named w args t inner rest more e = absurd (cc)

goes_on_named : (w : CommandWord) (t : Test) (inner : Commands) (rest : Branches) → part_of w true ≡ Branch
    → (part_of w false ≡ Branch → ⊥) → branch_named w t inner rest ≡ if_then t inner rest
goes_on_named If t inner rest e none = absurd (none refl)
goes_on_named ElsIf t inner rest e none = refl
goes_on_named w t inner rest e none = absurd (cc)

ends_named : (w : CommandWord) (t : Test) (inner : Commands) (rest : Branches) → part_of w true ≡ Otherwise
    → branch_named w t inner rest ≡ otherwise inner
ends_named Else t inner rest e = refl
ends_named w t inner rest e = absurd (cc)

stays_named : (w : CommandWord) (t : Test) (inner : Commands) (rest : Branches) → part_of w true ≡ part_of w false
    → branch_named w t inner rest ≡ no_branch
stays_named ElsIf t inner rest e = absurd (cc)
stays_named Else t inner rest e = absurd (cc)
stays_named w t inner rest e = refl

passes_named : (w : CommandWord) (args : List Argument) (t : Test) (inner : Commands) (rest : Branches)
    (more : Commands) → (part_of w true ≡ part_of w false → ⊥) → command_named w args t inner rest more ≡ more
passes_named ElsIf args t inner rest more other = refl
passes_named Else args t inner rest more other = refl
passes_named w args t inner rest more other = absurd (other refl)

pub part_law : PartLaw
part_law name args inner finish more = record {
  begins = begins_named (command_word name) args (only_in inner) (block_in finish) (branches_of more) (program_of more);
  goes_on = goes_on_named (command_word name) (only_in inner) (block_in finish) (branches_of more);
  ends = ends_named (command_word name) (only_in inner) (block_in finish) (branches_of more);
  stays = stays_named (command_word name) (only_in inner) (block_in finish) (branches_of more);
  passes = passes_named (command_word name) args (only_in inner) (block_in finish) (branches_of more) (program_of more);
}
