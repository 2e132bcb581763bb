use Rattle.record_tables.specs.Events.{event_table}
use Rattle.record_tables.proofs.Definitions.{defines_event}
use Rattle.record_tables.proofs.Loops.{on_ok}
use Rattle.record_tables.proofs.events.lay_events.Goals as goal

pub returns-clause-ok : goal.returns-clause-ok
returns-clause-ok g c = on_ok c.define_table.result (λ laid. laid event_table defines_event) c.define_table.ensures.ok
