use Rattle.record_tables.proofs.EventLayouts.{is_absent, is_present}
use Rattle.record_tables.proofs.event_layout.event_layout_of.Goals as goal

pub returns-clause-absent : goal.returns-clause-absent
returns-clause-absent c = is_absent c.args.schema.now c.layout_in-layout.result c.layout_in-layout.ensures

pub returns-clause-present : goal.returns-clause-present
returns-clause-present c = is_present c.args.schema.now c.layout_in-layout.result c.layout_in-layout.ensures
