use Rattle.promises.proofs.RecordLemmas.{due_says}
use Rattle.promises.proofs.records.due_lists_are_whole.Goals as goal

pub returns : goal.returns
returns c = λ s new day lines h.
    let says = due_says s day lines new h in
    ((says.0, says.1), says.2)
