use Rattle.std.proofs.Common.{ℕ, List, Option, Bor, ap, arith}
use Rattle.std.specs.Option.{option_map}
use Rattle.sieve_syntax.specs.View.{tree_of}
use Rattle.sieve_syntax.specs.declared.tree.Script.{Script}
use Rattle.sieve_meaning.specs.Reading.{program_of}
use Rattle.sieve_meaning.specs.Weight.{linked_weight}
use Rattle.sieve_meaning.proofs.OutcomeLaws.{light_by_weight}
use Rattle.sieve_library.specs.BorrowedShelves.{scripts_of}
use Rattle.sieve_library.specs.Libraries.{library_of}
use Rattle.filing_gen.proofs.program.compile_with.Goals as goal

pub returns-in_ok-image-in-Some-clause-too_large : goal.returns-in_ok-image-in-Some-clause-too_large
returns-in_ok-image-in-Some-clause-too_large c =
    let lib = library_of (scripts_of c.args.shelves) in
    let known : Option (List ℕ) = option_map (λ (s : Bor (List ℕ)). s.now) c.args.known_as in
    let main = program_of (tree_of c.args.main.now.script) in
    let same = ap (λ (s : Script). linked_weight lib known (program_of (tree_of s))) c.script-script.ensures.value in
    let light = light_by_weight lib known main (omega (arith, same, c.in-Some.ensures.0, c.in-Some.ensures.1)) in λ told. (
      λ h. absurd (cc h),
      λ h. absurd (cc (light, h)),
    )
