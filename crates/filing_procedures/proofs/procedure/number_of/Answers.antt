use Rattle.std.proofs.Common.{sym, subst, ◌∙◌, arith}
use Rattle.sieve_meaning.specs.Procedures.{is_shared}
use Rattle.sieve_library.specs.BorrowedShelves.{scripts_of}
use Rattle.sieve_library.specs.Libraries.{library_of}
use Rattle.filing_procedures.specs.ProcedureCode.{procedure_of, IsEntered}
use Rattle.filing_procedures.specs.declared.procedure.Procedure as code
use Rattle.filing_procedures.proofs.MadeLemmas.{none_more, none_at_end, number_found, no_number}
use Rattle.filing_procedures.proofs.procedure.number_of.Goals as goal

pub returns-then-are_shared : goal.returns-then-are_shared
returns-then-are_shared c = λ e ke.
    let l = scripts_of c.args.reach.now.shelves in
    let p = c.index-procedures-number.result in
    let kp = subst (IsEntered l) (sym c.index-procedures-number.is) (c.requires c.loop-number.number p c.loop-number-test.true) in
    number_found (library_of l) e c.args.procedures.now c.loop-number.number p c.loop-number-test.true c.index-procedures-number.is
    (sym (c.are_shared.ensures (procedure_of p) e kp ke) ∙ c.if-are_shared.true) (c.loop-number.invariant e ke)

pub loop-number-preserved : goal.loop-number-preserved
loop-number-preserved c = λ e ke.
    let l = scripts_of c.args.reach.now.shelves in
    let p = c.index-procedures-number.result in
    let kp = subst (IsEntered l) (sym c.index-procedures-number.is) (c.requires c.loop-number.number p c.loop-number-test.true) in
    none_more (λ (q : code.Procedure). is_shared (library_of l) (procedure_of q) e) c.args.procedures.now
    c.loop-number.number p c.loop-number-test.true c.index-procedures-number.is
    (sym (c.are_shared.ensures (procedure_of p) e kp ke) ∙ c.if-are_shared.false) (c.loop-number.invariant e ke)

pub returns : goal.returns
returns c = λ e ke.
    let l = scripts_of c.args.reach.now.shelves in
    no_number (library_of l) e c.args.procedures.now
    (sym (none_at_end (λ (q : code.Procedure). is_shared (library_of l) (procedure_of q) e) c.args.procedures.now
    c.loop-number.number (omega arith) (c.loop-number.invariant e ke)))
