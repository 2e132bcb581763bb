use Rattle.std.proofs.Common.{map, ap, ◌∙◌}
use Rattle.std.proofs.lemmas.Result.{IfOk-weaker}
use Rattle.record_rows.specs.Rules.{entry_of_row, answer_entry}
use Rattle.record_rows.proofs.Loops.{told-are}
use Rattle.record_rows.proofs.rules.classes_of.Goals as goal

pub returns : goal.returns
returns c = IfOk-weaker c.classes_from.result _ _ (λ v e. e ∙ ap (map answer_entry) c.as_slice.ensures.value
    ∙ told-are c.in_ok-classes.classes.items ∙ ap (map entry_of_row) c.in_ok-classes.ensures) c.classes_from.ensures
