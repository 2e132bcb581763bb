use Rattle.record_judge.proofs.IndexLemmas.{only_marked}
use Rattle.record_judge.proofs.record_index.mark_destroyed.Goals as goal

pub returns-clause-rows : goal.returns-clause-rows
returns-clause-rows c = λ kept.
    only_marked c.args.index.now c.args.rows.now _ c.in-Some.place c.args.number kept c.in-Some.ensures.place c.in-Some.ensures.alone
    c.mark_place.ensures.rows
