use Rattle.std.proofs.Common.{◌<◌, get_or, map, false, [], None, length, ℕ, subst, arith, ap, sym}
use Rattle.std.proofs.lemmas.List.{get_or-map, length-map}
use Rattle.class_plan.specs.Parts.{ClassAnswer, answer_row}
use Rattle.class_plan.specs.Plans.{Row}
use Rattle.class_plan.specs.Schedules.{IsInRangeIfAny}
use Rattle.record_history.proofs.texts.plan_text.Goals as goal

pub class_text-requires : goal.class_text-requires
class_text-requires c =
    let classes = c.args.plan.now.classes.items in
    let d : ClassAnswer = (record { ref_ptr = (0, 0); now = [] }, false, None) in
    let P : Row → Type 0 = λ r. IsInRangeIfAny r.schedule in
    let k = c.loop-class.class-index in
    let same = c.deref-class-items.ensures.value in
    let within : k < length classes = omega (arith, c.loop-class-test.true, ap length same) in
    let L : ℕ → Type 0 = λ n. k < n in
    let in_rows : k < length (map answer_row classes) = subst L (sym (length-map classes answer_row)) within in
    let listed : P (answer_row (get_or classes k d)) =
    subst P (get_or-map answer_row classes k d (answer_row d) within) (c.requires.rows k (answer_row d) in_rows) in
    rw same listed
