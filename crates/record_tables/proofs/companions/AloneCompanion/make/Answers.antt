use Rattle.sqlite.specs.Held.{state}
use Rattle.record_tables.proofs.CompanionLemmas.{none_accompanies}
use Rattle.record_tables.proofs.companions.AloneCompanion.make.Goals as goal

pub returns-clause-ok : goal.returns-clause-ok
returns-clause-ok g c clean inside = none_accompanies (state g.S.Store c.args._tx.now.conn.now).now
