use Rattle.std.proofs.Common.{◌∷◌, [], length, length-append, map, ap, arith}
use Rattle.sieve_library.specs.BorrowedShelves.{scripts_of}
use Rattle.filing_procedures.specs.ProcedureCode.{procedure_of}
use Rattle.filing_gen.proofs.NumberLemmas.{number_more}
use Rattle.filing_gen.proofs.callees.numbers_by_slot.Goals as goal

pub loop-slot-preserved : goal.loop-slot-preserved
loop-slot-preserved c = record {
  long = omega (
    arith,
    ap length c.in_ok-push.ensures.items,
    length-append c.loop-slot.numbers.items (c.number_by_slot.result ∷ []),
    c.loop-slot.invariant.long,
  );
  below = number_more (scripts_of c.args.reach.now.shelves) (map procedure_of c.args.later.now)
      (procedure_of c.args.procedure.now) c.loop-slot.numbers.items c.push.new.self.items c.number_by_slot.result
      c.loop-slot.slot
      c.loop-slot.invariant.long c.loop-slot.invariant.below c.number_by_slot.ensures c.in_ok-push.ensures.items;
}

pub returns : goal.returns
returns c = λ slot left s x is there at.
    let inside = c.slot_count-count.ensures.enough.inside s x there in
    c.loop-slot.invariant.below slot (omega (arith, inside, at, c.loop-slot-test.false)) left s x is there at
