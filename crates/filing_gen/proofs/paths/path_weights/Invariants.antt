use Rattle.std.proofs.Common.{◌≡◌, drop, length, map}
use Rattle.sieve_library.specs.BorrowedShelves.{scripts_of}
use Rattle.sieve_library.specs.Libraries.{library_of}
use Rattle.filing_procedures.specs.ProcedureCode.{procedure_of}
use Rattle.filing_gen.specs.Paths.{known_path}
use Rattle.filing_gen.specs.Procedures.{path_weights}
use Rattle.filing_gen.proofs.paths.path_weights.Given as goal

abbrev pub invariant-loop-number : goal.invariant-loop-number
invariant-loop-number l = record {
  long : length l.paths.items ≡ length l.procedures;
  known : drop l.number l.paths.items
      ≡ map known_path (path_weights (library_of (scripts_of l.reach.shelves))
      (map procedure_of (drop l.number l.procedures)));
}
