use Rattle.std.proofs.Common.{◌≡◌, List, ℕ, Vec, Global, map, subst, arith}
use Rattle.sieve_library.specs.BorrowedShelves.{scripts_of}
use Rattle.filing_procedures.specs.declared.slot_set.SlotSet.{SlotSet}
use Rattle.filing_procedures.specs.ReachTables.{AreFurther, AreReached}
use Rattle.filing_procedures.proofs.ReachTables.{round_more, reached_all}
use Rattle.filing_procedures.proofs.reach.reached_sets.Goals as goal

pub loop-round-preserved : goal.loop-round-preserved
loop-round-preserved c =
    let more = subst (λ (q : List (Vec ℕ Global)).
    AreFurther (map (λ (r : Vec ℕ Global). r.items) q) c.loop-round.sets.items c.in_ok-sets-2.sets.items)
    c.deref.ensures.value
    (subst (λ (q : List SlotSet).
    AreFurther (map (λ (r : Vec ℕ Global). r.items) c.deref.result.now) q c.in_ok-sets-2.sets.items)
    c.deref-in-loop-round.ensures.value c.in_ok-sets-2.ensures) in
    round_more (scripts_of c.args.shelves) c.args.count c.requires c.loop-round._round (map (λ (r : Vec ℕ Global).
    r.items) c.in_ok-rows.rows.items) c.loop-round.sets.items c.in_ok-sets-2.sets.items c.in_ok-rows.ensures
    c.loop-round.invariant more

pub returns-clause-reaches : goal.returns-clause-reaches
returns-clause-reaches c =
    let e : c.loop-round._round ≡ 64 = omega arith in
    reached_all (scripts_of c.args.shelves) c.args.count c.requires c.loop-round.sets.items (subst (λ (n : ℕ).
    AreReached (scripts_of c.args.shelves) c.args.count n c.loop-round.sets.items) e c.loop-round.invariant)
