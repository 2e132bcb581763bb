use Rattle.std.proofs.Common.{refl, ap, ◌∙◌, Err, rules}
use Rattle.record_archive.specs.Archive.{Archive}
use Rattle.record_store.proofs.Causes.{not_own-lost_or}
use Rattle.record_store.proofs.CommandLemmas.{stands_looked, still_looked}
use Rattle.record_store.proofs.MessageLemmas.{live_told}
use Rattle.record_store.proofs.store.Store.live_body.Goals as goal

pub returns-in-Ok-clause-tells : goal.returns-in-Ok-clause-tells
returns-in-Ok-clause-tells g c = λ (a : Archive) s. (
  stands_looked g.S.Store c.args.self.now _ a s c.live_body.ensures.looks refl refl (λ n. refl) (λ m. refl),
  λ clean.
      let kept = s.rows (c.live_body.ensures.looks.falls clean) (c.in-Ok.ensures.open clean).0 in
      c.in-Ok.ensures.body clean kept.tables kept.stored kept.keyed ∙ live_told c.args.number a _ kept,
)

pub returns-in-Err-clause-behaves : goal.returns-in-Err-clause-behaves
returns-in-Err-clause-behaves g c = record {
  falls = search rules;
  cause = λ (a : Archive) s clean. not_own-lost_or _ c.in-Err.fault c.lost_or.ensures (λ e.
      let kept = s.rows (c.live_body.ensures.looks.falls clean) (c.in-Err.ensures.seen clean (ap Err e)) in
      c.in-Err.ensures.none clean (ap Err e) kept.tables kept.stored kept.keyed);
  «open» = search rules;
}

pub returns-in-Ok-clause-still : goal.returns-in-Ok-clause-still
returns-in-Ok-clause-still g c = still_looked g.S.Store c.args.self.now c.live_body.new.conn c.live_body.ensures.looks

pub returns-in-Err-clause-still : goal.returns-in-Err-clause-still
returns-in-Err-clause-still g c = still_looked g.S.Store c.args.self.now c.live_body.new.conn c.live_body.ensures.looks
