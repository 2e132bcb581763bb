use Rattle.std.proofs.Common.{ℕ, List, Option, Bor, refl}
use Rattle.std.specs.Option.{option_map}
use Rattle.sieve_syntax.specs.View.{tree_of}
use Rattle.sieve_meaning.specs.Reading.{program_of}
use Rattle.sieve_library.specs.BorrowedShelves.{scripts_of}
use Rattle.filing_gen.proofs.SharedBuilt.{heavy_by_many}
use Rattle.filing_gen.proofs.shared.build_reached.Goals as goal

pub returns-in-None-clause-too_large : goal.returns-in-None-clause-too_large
returns-in-None-clause-too_large c = λ no.
    let l = scripts_of c.args.reach.now.shelves in
    let known : Option (List ℕ) = option_map (λ (s : Bor (List ℕ)). s.now) c.args.main.known_as in
    (λ h. heavy_by_many l known (program_of (tree_of c.args.script.now)) c.requires (rw c.in-None.is at c.in_ok-procedures.ensures.are), λ h. refl)
