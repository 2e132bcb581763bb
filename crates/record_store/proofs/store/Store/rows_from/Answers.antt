use Rattle.std.proofs.Common.{◌∙◌, Err, refl, ap}
use Rattle.record_archive.specs.Archive.{Archive}
use Rattle.record_store.proofs.Causes.{not_own-lost_or, no_refusal, fits_kept}
use Rattle.record_store.proofs.CommandLemmas.{stands_looked, still_looked, leaves_looked}
use Rattle.record_store.proofs.EntryReads.{looks_at, from_told, page_fits}
use Rattle.record_store.proofs.store.Store.rows_from.Goals as goal

pub returns-in-Ok : goal.returns-in-Ok
returns-in-Ok g c =
    let made = c.records_from.ensures.frame in
    let looks = looks_at g.S.Store c.args.self.now.conn c.records_from.new.conn _ made in
    record {
      tells = λ (a : Archive) s. (
        stands_looked g.S.Store c.args.self.now _ a s looks refl refl (λ n. refl) (λ m. refl),
        λ clean.
            let kept = s.rows (made.falls clean) (c.in-Ok.ensures.frame.was_open clean) in
            c.in-Ok.ensures.all clean kept.tables kept.stored kept.keyed ∙ from_told a kept.tables c.args.from c.args.most kept.keeps.records,
      );
      still = still_looked g.S.Store c.args.self.now c.records_from.new.conn looks;
      falls = made.falls;
      «open» = λ (a : Archive) s clean.
          let kept = s.rows (made.falls clean) (c.in-Ok.ensures.frame.was_open clean) in
          (c.in-Ok.ensures.frame.same clean kept.stored.schema).0.is_open;
      cause = λ a s clean. tt;
      crash = λ (a : Archive) s. leaves_looked g.S.Store c.args.self.now (record c.args.self.now { conn = c.records_from.new.conn }) a s looks;
    }

pub returns-in-Err : goal.returns-in-Err
returns-in-Err g c =
    let made = c.records_from.ensures.frame in
    let looks = looks_at g.S.Store c.args.self.now.conn c.records_from.new.conn _ made in
    record {
      tells = λ (a : Archive) s. (
        stands_looked g.S.Store c.args.self.now _ a s looks refl refl (λ n. refl) (λ m. refl),
        λ clean. no_refusal _ c.in-Err.fault c.lost_or.ensures,
      );
      still = still_looked g.S.Store c.args.self.now c.records_from.new.conn looks;
      falls = made.falls;
      «open» = λ a s clean. tt;
      cause = λ (a : Archive) s clean. not_own-lost_or _ c.in-Err.fault c.lost_or.ensures (λ e.
          let kept = s.rows (made.falls clean) (c.in-Err.ensures.seen clean (ap Err e)) in
          let fit = page_fits c.args.from c.args.most kept.tables.records (fits_kept a _ kept s.archive) in
          c.in-Err.ensures.none clean (ap Err e) kept.tables kept.stored kept.keyed fit);
      crash = λ (a : Archive) s. leaves_looked g.S.Store c.args.self.now (record c.args.self.now { conn = c.records_from.new.conn }) a s looks;
    }
