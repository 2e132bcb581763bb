use Rattle.std.proofs.Common.{ap, arith}
use Rattle.tool_texts.specs.declared.places.Place.{Place}
use Rattle.tool_places.proofs.PlaceLemmas.{column_small}
use Rattle.tool_places.proofs.places.walked.Goals as goal

pub past-place-requires-clause-column : goal.past-place-requires-clause-column
past-place-requires-clause-column c =
    let same = ap (λ (p : Place). p.column) c.loop-index.invariant in
    omega (arith, same, column_small c.args.text.now c.loop-index.index, c.requires.within, c.loop-index-test.true)
