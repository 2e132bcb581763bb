use Rattle.std.proofs.Common.{◌≡◌, ℕ, List, map, sym, ap, ◌∙◌, arith}
use Rattle.std.specs.Prelude.{Option}
use Rattle.sieve_meaning.specs.Program.{Commands}
use Rattle.sieve_meaning.specs.Procedures.{path_weight}
use Rattle.sieve_library.specs.BorrowedShelves.{scripts_of}
use Rattle.sieve_library.specs.Libraries.{Scripts, library_of}
use Rattle.filing_procedures.specs.ProcedureCode.{procedure_of, AreProcedures}
use Rattle.filing_procedures.specs.declared.procedure.Procedure as code
use Rattle.filing_gen.specs.Numbers.{number_at}
use Rattle.filing_gen.specs.Paths.{known_path}
use Rattle.filing_gen.specs.Procedures.{path_weights}
use Rattle.filing_gen.proofs.PathTables.{table_first, none_known, some_known}
use Rattle.filing_gen.proofs.paths.main_path.Goals as goal

-- what is known of the first weight
first : (l : Scripts) (ps : List code.Procedure) (items table : List (Option ℕ)) (o : Option ℕ) → o ≡ number_at table 0
    → table ≡ items → items ≡ map known_path (path_weights (library_of l) (map procedure_of ps))
    → (known_as : Option (List ℕ)) (main : Commands) → AreProcedures l known_as main ps → o ≡ known_path (path_weight (library_of l) known_as main)
first l ps items table o at same is known_as main are = at ∙ ap (λ (t : List (Option ℕ)). number_at t 0) same
    ∙ table_first (library_of l) ps items is known_as main are.are

pub returns-in-None : goal.returns-in-None
returns-in-None c = λ known_as main are.
    let l = scripts_of c.args.reach.now.shelves in
    let is = first l c.args.procedures.now c.in_ok-paths.paths.items c.deref.result.now c.weight_at.result
    c.weight_at.ensures c.deref.ensures.value c.in_ok-paths.ensures known_as main are in
    omega (arith, none_known (path_weight (library_of l) known_as main) (sym c.in-None.is ∙ is))

pub returns-in-Some : goal.returns-in-Some
returns-in-Some c = λ known_as main are.
    let l = scripts_of c.args.reach.now.shelves in
    let is = first l c.args.procedures.now c.in_ok-paths.paths.items c.deref.result.now c.weight_at.result
    c.weight_at.ensures c.deref.ensures.value c.in_ok-paths.ensures known_as main are in
    omega (arith, some_known (path_weight (library_of l) known_as main) c.in-Some.path (sym c.in-Some.is ∙ is))

pub returns : goal.returns
returns c = λ known_as main are.
    let l = scripts_of c.args.reach.now.shelves in
    let is = first l c.args.procedures.now c.in_ok-paths.paths.items c.deref.result.now c.weight_at.result
    c.weight_at.ensures c.deref.ensures.value c.in_ok-paths.ensures known_as main are in
    let path = some_known (path_weight (library_of l) known_as main) c.in-Some.path (sym c.in-Some.is ∙ is) in
    (path, omega arith)
