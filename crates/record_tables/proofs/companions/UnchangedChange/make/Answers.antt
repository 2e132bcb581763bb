use Rattle.sqlite.specs.Held.{state}
use Rattle.record_tables.proofs.CompanionLemmas.{none_turns}
use Rattle.record_tables.proofs.companions.UnchangedChange.make.Goals as goal

pub returns-clause-ok : goal.returns-clause-ok
returns-clause-ok g c clean inside = none_turns (state g.S.Store c.args._tx.now.conn.now).now
