use Rattle.record_tables.proofs.LayoutLemmas.{tells}
use Rattle.record_tables.proofs.layout.has_dues.Goals as goal

pub returns : goal.returns
returns c = tells c.args.schema.now c.lacks-lacks_dues.result c.lacks-lacks_dues.ensures
