use Rattle.promises.proofs.RecordLemmas.{finish_says}
use Rattle.promises.proofs.records.finished_captures_are_whole.Goals as goal

pub returns : goal.returns
returns c = λ s t f x. finish_says s t f x.fault x.lines x.new x.step
