use Rattle.std.proofs.Common.{[], map}
use Rattle.sieve_library.specs.BorrowedShelves.{scripts_of}
use Rattle.sieve_library.specs.Libraries.{library_of}
use Rattle.filing_procedures.specs.ProcedureCode.{procedure_of}
use Rattle.filing_procedures.specs.Slots.{slots_of}
use Rattle.filing_gen.specs.Scopes.{names_of}
use Rattle.filing_gen.proofs.ProcedureTypes.{procedure_typed}
use Rattle.filing_gen.proofs.emit_procedures.emit_procedure.Goals as goal

pub emit_script-requires-clause-typed : goal.emit_script-requires-clause-typed
emit_script-requires-clause-typed c =
    let l = scripts_of c.args.reach.now.shelves in
    procedure_typed (library_of l) (slots_of l) (names_of c.args.main) c.args.own (map procedure_of c.args.later.now)
    (procedure_of c.args.procedure.now) []
