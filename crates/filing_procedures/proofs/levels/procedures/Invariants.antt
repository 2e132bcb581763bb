use Rattle.std.proofs.Common.{option_map}
use Rattle.sieve_syntax.specs.View.{tree_of}
use Rattle.sieve_meaning.specs.Reading.{program_of}
use Rattle.sieve_library.specs.BorrowedShelves.{scripts_of}
use Rattle.filing_procedures.proofs.LevelLemmas.{AreLevels}
use Rattle.filing_procedures.proofs.levels.procedures.Given as goal

abbrev pub invariant-loop-level : goal.invariant-loop-level
invariant-loop-level l =
    AreLevels (scripts_of l.reach.shelves) (option_map (λ s. s.now) l.known_as) (program_of (tree_of l.main)) l._level l.first l.procedures.items
