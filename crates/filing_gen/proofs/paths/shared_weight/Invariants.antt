use Rattle.std.proofs.Common.{◌≡◌, ◌+◌, drop, map}
use Rattle.sieve_meaning.specs.Procedures.{shared_weight}
use Rattle.filing_procedures.specs.ProcedureCode.{procedure_of}
use Rattle.filing_gen.proofs.paths.shared_weight.Given as goal

abbrev pub invariant-loop-procedure : goal.invariant-loop-procedure
invariant-loop-procedure l = l.left + shared_weight (map procedure_of l.procedures)
    ≡ 60000 + shared_weight (map procedure_of (drop l.procedure-index l.procedures))
