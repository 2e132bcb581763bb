use Rattle.std.proofs.Common.{◌∙◌, ap, arith, set, get_or, map}
use Rattle.record_judge.specs.Refilings.{placed}
use Rattle.record_judge.specs.Sealed.{record_view}
use Rattle.record_judge.proofs.RefilingLemmas.{one_more_placed}
use Rattle.record_judge.proofs.refilings.place_each.Goals as goal

pub loop-place-preserved : goal.loop-place-preserved
loop-place-preserved c =
    let now = c.loop-place.rows in
    let i = c.loop-place.place in
    one_more_placed c.args.number c.args.path.now c.args.rows.now now c.place_row.new.rows i c.loop-place.invariant
    (omega (arith, c.loop-place-test.true))
    (λ d. c.place_row.ensures d
    ∙ ap (λ q. set (map record_view now) i (placed c.args.number q (record_view (get_or now i d)))) c.in_ok-copy.ensures.items)
