use Rattle.std.proofs.Common.{◌≡◌, ◌∙◌, subst, filter, not}
use Rattle.record_judge.specs.Counts.{tally}
use Rattle.record_judge.specs.Holds.{is_hold_of}
use Rattle.record_judge.proofs.HoldLemmas.{left_holds}
use Rattle.record_judge.proofs.hold_index.remove_holds.Goals as goal

pub returns-clause-rows : goal.returns-clause-rows
returns-clause-rows c = λ kept.
    let k = c.args.key.now in
    subst (λ nm. c.count-count.result ≡ tally (is_hold_of nm k.1) c.args.rows.now.items
    → c.remove_rows.new.rows.items ≡ filter (λ h. not (is_hold_of nm k.1 h)) c.args.rows.now.items) c.as_slice.ensures.value c.remove_rows.ensures
    (c.count-count.ensures ∙ kept.names k)

pub returns-clause-index : goal.returns-clause-index
returns-clause-index c = λ kept.
    let k = c.args.key.now in
    left_holds c.args.index.now (record c.args.index.now {
      records = c.take.new.self;
      names = c.forget.new.self;
      places = c.remove_rows.new.places;
    }) k c.count-count.result c.args.rows.now.items _ kept c.count-count.ensures c.take.ensures c.forget.ensures
    (subst (λ nm. c.count-count.result ≡ tally (is_hold_of nm k.1) c.args.rows.now.items
    → c.remove_rows.new.rows.items ≡ filter (λ h. not (is_hold_of nm k.1 h)) c.args.rows.now.items) c.as_slice.ensures.value c.remove_rows.ensures)
