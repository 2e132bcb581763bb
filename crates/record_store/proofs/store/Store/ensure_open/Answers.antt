use Rattle.std.proofs.Common.{not, ap, refl, arith, ◌∙◌}
use Rattle.sqlite.specs.Held.{state}
use Rattle.sqlite.proofs.StateLemmas.{survives_weaker}
use Rattle.record_reads.specs.Lookups.{Looks}
use Rattle.record_reads.proofs.ReadLemmas.{still_seen}
use Rattle.record_archive.specs.Archive.{Archive}
use Rattle.record_store.proofs.CommandLemmas.{stands_looked, still_looked}
use Rattle.record_store.proofs.StoreLemmas.{prepared_still}
use Rattle.record_store.proofs.store.Store.ensure_open.Given.{Over}
use Rattle.record_store.proofs.store.Store.ensure_open.Goals.{After-prepare}
use Rattle.record_store.proofs.store.Store.ensure_open.Goals as goal

looked : (g : Over) (c : After-prepare g) → Looks g.S.Store c.args.self.now.conn c.prepare.new.self
looked g c =
    let before = c.args.self.now.conn in
    let after = c.prepare.new.self in
    let asked = c.prepare.ensures in
    record {
      idle = asked.mode;
      falls = λ clean. omega (arith, asked.survives.clean, clean);
      still = λ idle are clean on. still_seen (state g.S.Store before) (state g.S.Store after)
          (c.is_autocommit-settled.ensures.settled (c.is_autocommit-settled.ensures.value ∙ ap not idle))
          (prepared_still _ (state g.S.Store before) (state g.S.Store after) c.prepare.result (asked.ok clean) (asked.err clean)) on;
      survives = survives_weaker (state g.S.Store before) (state g.S.Store after) _ _ (λ clean db none. absurd none) asked.survives;
    }

pub returns-clause-stands : goal.returns-clause-stands
returns-clause-stands g c = λ (a : Archive) s.
    stands_looked g.S.Store c.args.self.now _ a s (looked g (goal.at.returns-clause-stands g c).After-prepare) refl refl (λ n. refl) (λ m. refl)

pub returns-clause-still : goal.returns-clause-still
returns-clause-still g c = still_looked g.S.Store c.args.self.now c.prepare.new.self (looked g (goal.at.returns-clause-still g c).After-prepare)
