use Rattle.std.proofs.Common.{◌<◌, ℕ, List, Option, Bor, sym, subst}
use Rattle.std.specs.Option.{option_map}
use Rattle.sieve_syntax.specs.View.{tree_of}
use Rattle.sieve_meaning.specs.Reading.{program_of}
use Rattle.sieve_meaning.specs.Weight.{greatest_weight, linked_weight}
use Rattle.sieve_library.specs.declared.shelves.Shelves.{Shelves}
use Rattle.sieve_library.specs.BorrowedShelves.{scripts_of}
use Rattle.sieve_library.specs.Libraries.{library_of}
use Rattle.filing_gen.proofs.shared.build_shared.Goals as goal

pub build_reached-requires : goal.build_reached-requires
build_reached-requires c =
    let known : Option (List ℕ) = option_map (λ (s : Bor (List ℕ)). s.now) c.args.scope.main.known_as in
    subst (λ (s : Shelves).
    greatest_weight < linked_weight (library_of (scripts_of s)) known (program_of (tree_of c.args.script.now)))
    (sym c.in_ok-reach.ensures) c.requires
