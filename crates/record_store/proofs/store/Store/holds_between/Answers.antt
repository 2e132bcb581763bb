use Rattle.std.proofs.Common.{Err, refl, ap}
use Rattle.record_archive.specs.Archive.{Archive}
use Rattle.record_adoption.specs.Adoption.{sorted_holds}
use Rattle.record_adoption.proofs.AdoptHolds.{are_named}
use Rattle.record_store.proofs.Causes.{not_own-lost_or, no_refusal}
use Rattle.record_store.proofs.CommandLemmas.{stands_looked, still_looked, leaves_looked}
use Rattle.record_store.proofs.EntryReads.{looks_at}
use Rattle.record_store.proofs.store.Store.holds_between.Goals as goal

pub returns-in-Ok : goal.returns-in-Ok
returns-in-Ok g c =
    let made = c.holds_between.ensures.frame in
    let looks = looks_at g.S.Store c.args.self.now.conn c.holds_between.new.conn _ made in
    record {
      tells = λ (a : Archive) s. (
        stands_looked g.S.Store c.args.self.now _ a s looks refl refl (λ n. refl) (λ m. refl),
        λ clean.
            let kept = s.rows (made.falls clean) (c.in-Ok.ensures.frame.was_open clean) in
            c.in-Ok.ensures.all clean kept.tables (sorted_holds a) (are_named kept.tables a kept.keeps.holds s.archive.once) kept.stored kept.keyed,
      );
      still = still_looked g.S.Store c.args.self.now c.holds_between.new.conn looks;
      falls = made.falls;
      cause = λ a s clean. tt;
      crash = λ (a : Archive) s. leaves_looked g.S.Store c.args.self.now (record c.args.self.now { conn = c.holds_between.new.conn }) a s looks;
    }

pub returns-in-Err : goal.returns-in-Err
returns-in-Err g c =
    let made = c.holds_between.ensures.frame in
    let looks = looks_at g.S.Store c.args.self.now.conn c.holds_between.new.conn _ made in
    record {
      tells = λ (a : Archive) s. (
        stands_looked g.S.Store c.args.self.now _ a s looks refl refl (λ n. refl) (λ m. refl),
        λ clean. no_refusal _ c.in-Err.fault c.lost_or.ensures,
      );
      still = still_looked g.S.Store c.args.self.now c.holds_between.new.conn looks;
      falls = made.falls;
      cause = λ (a : Archive) s clean. not_own-lost_or _ c.in-Err.fault c.lost_or.ensures (λ e.
          let kept = s.rows (made.falls clean) (c.in-Err.ensures.seen clean (ap Err e)) in
          let named = are_named kept.tables a kept.keeps.holds s.archive.once in
          c.in-Err.ensures.none clean (ap Err e) kept.tables (sorted_holds a) named kept.stored kept.keyed);
      crash = λ (a : Archive) s. leaves_looked g.S.Store c.args.self.now (record c.args.self.now { conn = c.holds_between.new.conn }) a s looks;
    }
