use Rattle.std.proofs.Common.{◌≡◌, ◌∙◌, ◌+◌, ◌++◌, ◌∷◌, [], List, Vec, Global, ℕ, map, take, ap, ap₂, subst}
use Rattle.record_reads.specs.Events.{event_of}
use Rattle.record_history.specs.Chain.{mark_after}
use Rattle.record_noted.specs.Histories.{MovesOn, rows_from}
use Rattle.record_noted.proofs.RowLemmas.{end_next, lines_next, row_next}
use Rattle.record_noted.proofs.rows.rows_of_lines.Goals as goal

pub loop-line-preserved : goal.loop-line-preserved
loop-line-preserved c =
    let items : Vec ℕ Global → List ℕ = λ v. v.items in
    let first = c.args.first in
    let before = c.args.before.now in
    let ls = map items (take c.loop-line.line-index c.args.lines.now) in
    let l = c.line-item.result.items in
    let more : ls ++ l ∷ [] ≡ map items (take (c.loop-line.line-index + 1) c.args.lines.now) =
    lines_next items c.args.lines.now c.loop-line.line-index c.line-item.result c.loop-line-test.true c.line-item.is in
    let so_far = c.loop-line.invariant.1 in
    let last = c.loop-line.mark.items in
    let mark : c.into_bytes-mark.result.items ≡ mark_after last l =
    ap items c.into_bytes-mark.ensures.value ∙ c.in_ok-next_mark.ensures
    ∙ ap₂ mark_after c.as_slice.ensures.value c.as_slice-in-loop-line.ensures.value in (
      ap (map event_of) c.in_ok-push.ensures.items
          ∙ row_next first before c.loop-line.rows.items _ ls l c.loop-line.invariant.0 so_far.next_is
          (c.in_ok-from_slice.ensures.items ∙ c.as_slice-in-loop-line-2.ensures.value)
          (c.in_ok-from_slice-2.ensures.items ∙ c.as_slice-in-loop-line-3.ensures.value ∙ mark ∙ ap (λ m. mark_after m l) so_far.mark_is)
          ∙ ap (rows_from first before) more,
      subst (λ ks. MovesOn first before ks c.in_ok-next.next c.into_bytes-mark.result.items) more
          (end_next first before ls l c.loop-line.next c.in_ok-next.next last c.into_bytes-mark.result.items so_far c.in_ok-next.ensures.number mark),
    )
