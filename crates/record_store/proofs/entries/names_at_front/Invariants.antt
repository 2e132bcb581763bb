use Rattle.record_tables.specs.CodeRows.{hold_entry_of}
use Rattle.record_store.proofs.EntryLoops.{NamesSoFar}
use Rattle.record_store.proofs.entries.names_at_front.Given as goal

abbrev pub invariant-loop-hold : goal.invariant-loop-hold
invariant-loop-hold l = NamesSoFar hold_entry_of (λ p. p.items) l.number l.holds l.hold-index l.names.items
