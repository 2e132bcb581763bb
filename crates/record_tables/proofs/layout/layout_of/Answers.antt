use Rattle.record_tables.proofs.LayoutLemmas.{is_empty, is_first, is_dated, is_second}
use Rattle.record_tables.proofs.layout.layout_of.Goals as goal

pub returns-clause-empty : goal.returns-clause-empty
returns-clause-empty c = is_empty c.args.schema.now c.layout_in-layout.result c.layout_in-layout.ensures

pub returns-clause-first : goal.returns-clause-first
returns-clause-first c = is_first c.args.schema.now c.layout_in-layout.result c.layout_in-layout.ensures

pub returns-clause-first_with_dues : goal.returns-clause-first_with_dues
returns-clause-first_with_dues c = is_dated c.args.schema.now c.layout_in-layout.result c.layout_in-layout.ensures

pub returns-clause-second : goal.returns-clause-second
returns-clause-second c = is_second c.args.schema.now c.layout_in-layout.result c.layout_in-layout.ensures
