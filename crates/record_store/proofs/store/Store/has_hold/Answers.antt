use Rattle.std.proofs.Common.{refl, ◌∙◌}
use Rattle.record_archive.specs.Archive.{Archive}
use Rattle.record_store.proofs.CommandLemmas.{stands_looked, still_looked}
use Rattle.record_store.proofs.HoldLemmas.{hold_told}
use Rattle.record_store.proofs.store.Store.has_hold.Goals as goal

pub returns-in-Ok-clause-tells : goal.returns-in-Ok-clause-tells
returns-in-Ok-clause-tells g c = λ (a : Archive) s. (
  stands_looked g.S.Store c.args.self.now _ a s c.has_hold.ensures.looks refl refl (λ n. refl) (λ m. refl),
  λ clean.
      let kept = s.rows (c.has_hold.ensures.looks.falls clean) (c.in-Ok.ensures.open clean).0 in
      c.in-Ok.ensures.there clean kept.tables kept.stored kept.keyed ∙ hold_told c.args.name.now c.args.number a _ kept,
)

pub returns-in-Ok-clause-still : goal.returns-in-Ok-clause-still
returns-in-Ok-clause-still g c = still_looked g.S.Store c.args.self.now c.has_hold.new.conn c.has_hold.ensures.looks

pub returns-in-Err-clause-still : goal.returns-in-Err-clause-still
returns-in-Err-clause-still g c = still_looked g.S.Store c.args.self.now c.has_hold.new.conn c.has_hold.ensures.looks
