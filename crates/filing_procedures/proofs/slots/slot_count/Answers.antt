use Rattle.std.proofs.Common.{◌≡◌, ◌+◌, length, arith}
use Rattle.std.proofs.lemmas.Grind.{common_steps}
use Rattle.sieve_library.specs.BorrowedShelves.{scripts_of}
use Rattle.sieve_library.specs.Libraries.{Scripts, IsLibrary}
use Rattle.filing_procedures.proofs.SlotLemmas.{slots_personal, slots_global, least_personal, least_global}
use Rattle.filing_procedures.proofs.slots.slot_count.Goals as goal

pub returns-then-global-eq0 : goal.returns-then-global-eq0
returns-then-global-eq0 c =
    let l : Scripts = scripts_of c.args.shelves in
    let is : IsLibrary l = record { personal = c.len-personal.ensures.location; global = c.len-global.ensures.location } in
    let none : length l.global ≡ 0 = grind (arith, common_steps) in
    record {
      enough = slots_personal l is c.len-personal.result c.len-personal.ensures.count none;
      fewest = λ n h. let few = least_personal l is n h in omega (arith, few, c.len-personal.ensures.count);
    }

pub returns-else-global-eq0 : goal.returns-else-global-eq0
returns-else-global-eq0 c =
    let l : Scripts = scripts_of c.args.shelves in
    let is : IsLibrary l = record { personal = c.len-personal.ensures.location; global = c.len-global.ensures.location } in
    record {
      enough = slots_global l is (32 + c.len-global.result) (omega (arith, c.len-global.ensures.count));
      fewest = λ n h. let few =
          least_global l is (omega (arith, c.if-global-eq0.false, c.len-global.ensures.count)) n h in
          omega (arith, few, c.len-global.ensures.count);
    }
