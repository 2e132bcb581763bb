use Rattle.std.proofs.Common.{◌∙◌, ap, Some}
use Rattle.record_judge.proofs.judge.judged_is_told.Goals as goal

pub returns : goal.returns
returns c = λ j ls a judged seen. (judged.events, judged.lines, judged.replayed ∙ ap (λ x. Some x) seen)
