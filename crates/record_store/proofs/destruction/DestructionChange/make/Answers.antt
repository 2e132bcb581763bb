use Rattle.std.proofs.Common.{Ok}
use Rattle.sqlite.specs.declared.error.Error.{Error}
use Rattle.record_tables.specs.Steps.{Writes}
use Rattle.record_tables.specs.Changes.{Always, with_destruction, without_due}
use Rattle.record_tables.proofs.Loops.{puts_then, turned_alone, writes_next}
use Rattle.record_store.specs.Destruction.{without_body}
use Rattle.record_store.proofs.destruction.DestructionChange.make.Given.{Over}
use Rattle.record_store.proofs.destruction.DestructionChange.make.Goals.{In_ok-delete_body}
use Rattle.record_store.proofs.destruction.DestructionChange.make.Goals as goal

all : (g : Over) (c : In_ok-delete_body g) → Writes {T = Unit} {E = Error} g.S.Store c.args.tx.now.conn c.delete_body.new.tx.conn (Ok tt) Always
    (λ t. without_body c.args.self.last (with_destruction c.args.self.number (without_due c.args.self.number t)))
all g c =
    let n = c.args.self.number in
    writes_next g.S.Store _ _ _ _
    (writes_next g.S.Store _ _ _ (Ok _) c.in_ok-delete_due.ensures c.in_ok-set_destroyed.ensures
    (puts_then _ _ _ Always Always (without_due n) (with_destruction n) (λ t h. tt))) c.in_ok-delete_body.ensures
    (puts_then _ _ _ Always Always _ (without_body c.args.self.last) (λ t h. tt))

pub returns-clause-ok : goal.returns-clause-ok
returns-clause-ok g c clean inside = turned_alone _ _ Always _ ((all g (goal.at.returns-clause-ok g c).In_ok-delete_body).ok clean inside)

pub returns-clause-goes_on : goal.returns-clause-goes_on
returns-clause-goes_on g c clean inside =
    let made = (all g (goal.at.returns-clause-goes_on g c).In_ok-delete_body).ok clean inside in
    record { committed = made.committed; mode = made.mode; is_open = made.is_open }
