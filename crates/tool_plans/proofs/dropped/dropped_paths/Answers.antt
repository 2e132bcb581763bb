use Rattle.std.proofs.Common.{◌≡◌, not, map, filter, take, arith, ap, ◌∙◌}
use Rattle.std.proofs.lemmas.List.{take_all}
use Rattle.class_plan.specs.Plans.{has, paths_of}
use Rattle.tool_plans.proofs.Rows.{paths_answered}
use Rattle.tool_plans.proofs.dropped.dropped_paths.Goals as goal

pub returns : goal.returns
returns c =
    let items = c.as_slice-path-items.result.now in
    let paths : map (λ r. r.0.now) items ≡ paths_of c.args.present.now.rows =
    ap (map (λ r. r.0.now)) c.as_slice-path-items.ensures.value
    ∙ paths_answered c.in_ok-classes.field-0.items
    ∙ ap paths_of c.in_ok-classes.ensures in
    c.loop-path.invariant
    ∙ ap (λ xs. filter (λ p. not (has c.args.new.now.rows p)) (map (λ r. r.0.now) xs))
    (take_all c.loop-path.path-index items (omega (arith, c.loop-path-test.false)))
    ∙ ap (filter (λ p. not (has c.args.new.now.rows p))) paths
