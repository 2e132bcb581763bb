use Rattle.std.proofs.Common.{Ok}
use Rattle.sqlite.specs.declared.error.Error.{Error}
use Rattle.record_tables.specs.Steps.{Writes}
use Rattle.record_tables.specs.Changes.{Always, with_path, without_due}
use Rattle.record_tables.proofs.Loops.{puts_then, turned_alone, writes_next}
use Rattle.record_store.specs.Refiling.{with_due_if, with_refiling}
use Rattle.record_store.proofs.refiling.RefilingChange.make.Given.{Over}
use Rattle.record_store.proofs.refiling.RefilingChange.make.Goals.{In_ok-set_path}
use Rattle.record_store.proofs.refiling.RefilingChange.make.Goals as goal

all : (g : Over) (c : In_ok-set_path g) → Writes {T = Unit} {E = Error} g.S.Store c.args.tx.now.conn c.set_path.new.tx.conn (Ok tt) Always
    (with_refiling c.args.self.number c.args.self.path.now c.args.self.due)
all g c =
    let n = c.args.self.number in
    let due = c.args.self.due in
    writes_next g.S.Store _ _ _ _
    (writes_next g.S.Store _ _ _ (Ok _) c.in_ok-delete_due.ensures c.in_ok-insert_if_due.ensures
    (puts_then _ _ _ Always Always (without_due n) (with_due_if n due) (λ t h. tt))) c.in_ok-set_path.ensures
    (puts_then _ _ _ Always Always _ (with_path n c.args.self.path.now) (λ t h. tt))

pub returns-clause-ok : goal.returns-clause-ok
returns-clause-ok g c clean inside = turned_alone _ _ Always _ ((all g (goal.at.returns-clause-ok g c).In_ok-set_path).ok clean inside)

pub returns-clause-goes_on : goal.returns-clause-goes_on
returns-clause-goes_on g c clean inside =
    let made = (all g (goal.at.returns-clause-goes_on g c).In_ok-set_path).ok clean inside in
    record { committed = made.committed; mode = made.mode; is_open = made.is_open }
