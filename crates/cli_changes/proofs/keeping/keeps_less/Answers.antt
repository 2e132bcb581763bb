use Rattle.std.proofs.Common.{◌∙◌, ap, sym, rules}
use Rattle.std.specs.List.{list_any}
use Rattle.class_plan.specs.Parts.{answer_row}
use Rattle.class_plan.specs.Plans.{Row, schedule_at}
use Rattle.record_choice.proofs.EntryLaws.{any_viewed}
use Rattle.cli_changes.specs.Keeping.{is_kept_less}
use Rattle.cli_changes.proofs.keeping.keeps_less.Goals as goal

pub returns : goal.returns
returns c =
    let is_less = λ (r : Row). is_kept_less (schedule_at c.args.present.now r.path) (schedule_at c.args.new.now r.path) in
    let classes = c.in_ok-classes.classes.items in
    c.is_any_kept_less.ensures ∙ ap (list_any (λ x. is_less (answer_row x))) c.as_slice.ensures.value
    ∙ sym (any_viewed is_less answer_row classes) ∙ ap (list_any is_less) c.in_ok-classes.ensures
