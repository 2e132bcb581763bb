-- How commands relate to the branches before them: an `elsif` or `else` belongs to them where they are open (RFC 5228,
-- section 3.1).
use Rattle.std.specs.Prelude.{Bool, true, false}
use Rattle.sieve_meaning.specs.declared.words.CommandWord.{CommandWord}
use Rattle.sieve_meaning.specs.declared.words.CommandWord.TheVariants as words
use Rattle.sieve_meaning.specs.declared.branches.BranchPart.{BranchPart}
use Rattle.sieve_meaning.specs.declared.branches.BranchPart.TheVariants.{Branch, Otherwise, Plain}

-- the part of a command, given whether the branches before it are open
abbrev pub part_of : CommandWord → (is_open : Bool) → BranchPart
part_of words.If is_open = Branch
part_of words.ElsIf true = Branch
part_of words.ElsIf false = Plain
part_of words.Else true = Otherwise
part_of words.Else false = Plain
part_of word is_open = Plain

-- whether branches are open after it
abbrev pub is_branch : BranchPart → Bool
is_branch Branch = true
is_branch Otherwise = false
is_branch Plain = false
