use Rattle.std.proofs.Common.{arith}
use Rattle.std.specs.BTreeMap.{get}
use Rattle.std.specs.Ordering.{nat_cmp}
use Rattle.record_judge.specs.declared.sealed.SealedRecord.{SealedRecord}
use Rattle.cli_history.proofs.ComparisonLemmas.{place_noted}
use Rattle.cli_history.proofs.comparison.places_of_records.Goals as goal

pub loop-place-preserved : goal.loop-place-preserved
loop-place-preserved c =
    place_noted (λ (x : SealedRecord). x.number) c.args.records.now c.loop-place.place _ (omega (arith, c.loop-place-test.true))
    (get nat_cmp c.loop-place.places) (get nat_cmp c.note_place.new.places) c.in_ok-note_place.ensures c.loop-place.invariant
