use Rattle.std.proofs.Common.{ℕ, sym, subst, length, map}
use Rattle.std.proofs.lemmas.List.{length-map}
use Rattle.sieve_syntax.specs.View.{tree_of}
use Rattle.sieve_meaning.specs.Reading.{program_of}
use Rattle.sieve_meaning.specs.Scripts.{include_view}
use Rattle.sieve_library.specs.BorrowedShelves.{scripts_of}
use Rattle.filing_procedures.specs.ProcedureCode.{procedure_of}
use Rattle.filing_gen.specs.Scopes.{names_of}
use Rattle.filing_gen.specs.Inclusions.{CallsOneOf}
use Rattle.filing_gen.specs.declared.callees.Call.{Call}
use Rattle.filing_gen.proofs.InclusionLemmas.{enter_within}
use Rattle.filing_gen.proofs.callees.Callees.inclusion.Goals as goal

pub returns-in-Entry-clause-within : goal.returns-in-Entry-clause-within
returns-in-Entry-clause-within c =
    let s = c.args.self.now in
    let within =
    enter_within (scripts_of s.scope.shelves) (names_of s.scope.main) (map procedure_of s.later.now)
    (procedure_of s.procedure.now) (include_view c.args.include.now) s.numbers.now s.numbered
    (program_of (tree_of c.in-Entry.field-1.now)) c.in-Entry.ensures.told c.in-Entry.slot
    c.in-Entry.ensures.slot.0 in (
      c.in-Entry.ensures.slot.1,
      subst (λ (n : ℕ). CallsOneOf n c.call.result) (length-map s.later.now procedure_of) (subst (λ (k : Call).
          CallsOneOf (length (map procedure_of s.later.now)) k) (sym c.call.ensures) within),
    )
