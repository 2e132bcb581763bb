use Rattle.std.proofs.Common.{◌≡◌}
use Rattle.class_plan.specs.Fields.{rows_in}
use Rattle.class_plan.specs.Entries.{contents, contents_faults, listing_of}
use Rattle.class_plan.proofs.Judged.{judged-made}
use Rattle.class_plan.proofs.Made.{made-plan}
use Rattle.class_plan.proofs.plan_rules.plan_from.Goals as goal

pub invariant_of-result : goal.invariant_of-result
invariant_of-result c =
    let f = contents c.args.root c.args.listed.now in
    let made = judged-made (contents_faults f) _ _ c.in_ok-root.ensures.judged in
    let rows : rows_in c.in_ok-gathered.gathered.classes ≡ (listing_of f).rows = c.in_ok-gathered.ensures.rows in
    let order = rw rows at c.in_ok-root.ensures.in_order in
    rw (made.0, rows) (made-plan f c.requires made.1 order)
