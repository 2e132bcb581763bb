use Rattle.std.proofs.Common.{◌≡◌, ◌<◌, ◌≤◌, length, drop, map, get_or, sym, ap, ◌∙◌, rules}
use Rattle.std.proofs.lemmas.List.{take_rest}
use Rattle.class_plan.specs.Parts.{part_row}
use Rattle.record_tables.specs.CodeRows.{rule_of}
use Rattle.record_rows.specs.Merge.{own_in, rest_in}
use Rattle.record_rows.proofs.Loops.{rest-taken, rest-left, taken-within, left-within, merged-next}
use Rattle.record_rows.proofs.plans.parts_of.Goals as goal
use Rattle.record_rows.proofs.plans.parts_of.Goals.{then-is_some, else-is_some}

pub loop-class-preserved : goal.loop-class-preserved
loop-class-preserved c =
    let h : c.loop-class.class-index < length c.args.classes.now = search rules in
    let rest : rest_in c.own_in-own.result (map rule_of (drop c.loop-class.place c.args.rules.now))
    ≡ map rule_of (drop c.if-is_some.place c.args.rules.now) = elim c.if-is_some.branch [
      | then-is_some w ↦
          rest-taken c.own_in-own.result c.args.rules.now c.loop-class.place c.if-is_some.place (sym c.is_some.ensures
          ∙ w.if-is_some.true) w.place-is
      | else-is_some w ↦
          rest-left c.own_in-own.result c.args.rules.now c.loop-class.place c.if-is_some.place (sym c.is_some.ensures
          ∙ w.if-is_some.false) w.place-is
    ] in
    let within : c.if-is_some.place ≤ length c.args.rules.now =
    elim c.if-is_some.branch [
      | then-is_some w ↦
          taken-within c.own_in-own.result c.args.rules.now c.loop-class.place c.if-is_some.place (sym c.is_some.ensures
          ∙ w.if-is_some.true) c.own_in-own.ensures.some w.place-is
      | else-is_some w ↦ left-within c.args.rules.now c.loop-class.place c.if-is_some.place w.place-is
          c.loop-class.invariant.within
    ] in
    let own : c.own_in-own.result
    ≡ own_in (map rule_of (drop c.loop-class.place c.args.rules.now))
    (get_or c.args.classes.now c.loop-class.class-index c.class-item.result).path.items =
    c.own_in-own.ensures.own
    ∙ ap (λ z. own_in (map rule_of z) c.as_slice-in-loop-class.result.now)
    (take_rest c.args.rules.now c.loop-class.place)
    ∙ ap (own_in (map rule_of (drop c.loop-class.place c.args.rules.now))) (c.as_slice-in-loop-class.ensures.value
    ∙ ap (λ r. r.path.items) c.class-item.is) in
    let same : part_row (c.in_ok-path.path, c.class-item.result.is_open, c.own_in-own.result)
    ≡ record {
      path = (get_or c.args.classes.now c.loop-class.class-index c.class-item.result).path.items;
      is_open =
          (get_or c.args.classes.now c.loop-class.class-index c.class-item.result).is_open;
      schedule =
          c.own_in-own.result;
    } =
    (λ i. record {
      path = (c.in_ok-path.ensures.items ∙ c.as_slice.ensures.value
          ∙ ap (λ r. r.path.items) c.class-item.is) i;
      is_open = (c.class-item.is i).is_open;
      schedule =
          c.own_in-own.result;
    }) in
    record {
      within = within;
      kept =
          rw c.in_ok-push.ensures.items (merged-next c.loop-class.parts.items _ c.args.rules.now c.loop-class.place
          c.if-is_some.place c.own_in-own.result c.args.classes.now c.loop-class.class-index c.class-item.result _ h own
          rest same c.loop-class.invariant.kept);
    }
