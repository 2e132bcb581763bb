use Rattle.std.proofs.Common.{◌≡◌, [], ◌∷◌, None, true, refl, ap, ◌∙◌}
use Rattle.class_paths.specs.Path.{unfiled}
use Rattle.class_plan.specs.Plans.{with_row, open_row}
use Rattle.class_plan.specs.Fields.{row, rows, rows_in}
use Rattle.class_plan.proofs.Found.{rows-insert, row-same}
use Rattle.class_plan.proofs.Keeping.{first-plan}
use Rattle.class_plan.proofs.plans.Plan.new.Goals as goal

pub invariant_of-result : goal.invariant_of-result
invariant_of-result c =
    let made : rows_in c.insert.new.self ≡ open_row unfiled ∷ [] =
    ap rows c.in_ok-insert.ensures.entries ∙ rows-insert c.new-classes.result.entries c.in_ok-from_slice.field-0 _
    ∙ ap (λ es. with_row (row (c.in_ok-from_slice.field-0, _)) (rows es)) c.new-classes.ensures.empty
    ∙ ap (λ r. r ∷ []) (row-same _ _ true None None c.in_ok-from_slice.ensures.items refl) in
    rw made first-plan
