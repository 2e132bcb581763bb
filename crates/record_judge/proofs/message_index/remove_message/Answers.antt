use Rattle.std.proofs.Common.{◌∙◌}
use Rattle.record_judge.proofs.MessageLemmas.{left_index}
use Rattle.record_judge.proofs.message_index.remove_message.Goals as goal

pub returns-clause-rows : goal.returns-clause-rows
returns-clause-rows c = λ kept. c.remove_rows.ensures (c.count-count.ensures ∙ kept.numbers c.args.number)

pub returns-clause-index : goal.returns-clause-index
returns-clause-index c = λ kept.
    left_index c.args.index.now (record c.args.index.now { numbers = c.take.new.self; places = c.remove_rows.new.places }) c.args.number
    c.count-count.result c.args.rows.now.items _ kept c.count-count.ensures c.take.ensures c.remove_rows.ensures
