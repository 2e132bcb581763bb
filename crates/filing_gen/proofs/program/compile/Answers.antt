use Rattle.std.proofs.Common.{◌≡◌, ◌≢◌, ◌↔◌, Err, subst}
use Rattle.std.specs.Option.{option_map}
use Rattle.sieve_syntax.specs.View.{tree_of}
use Rattle.sieve_meaning.specs.Reading.{program_of}
use Rattle.sieve_meaning.specs.TooHeavy.{IsTooHeavy}
use Rattle.sieve_library.specs.Libraries.{Scripts, library_of}
use Rattle.filing_gen.specs.declared.fault.GenFault.TheVariants.{TooLarge, NoMemory}
use Rattle.filing_gen.proofs.program.compile.Goals as goal

pub returns-clause-too_large : goal.returns-clause-too_large
returns-clause-too_large c =
    subst (λ (l : Scripts). c.compile_with.result ≢ Err NoMemory
    → c.compile_with.result ≡ Err TooLarge ↔ IsTooHeavy (library_of l) (option_map (λ s. s.now) c.args.known_as)
    (program_of (tree_of c.args.main.now.script))) c.shelves.ensures c.compile_with.ensures.too_large
