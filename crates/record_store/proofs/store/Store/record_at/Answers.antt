use Rattle.std.proofs.Common.{find, option_map, ap, sym, refl, ◌∙◌, Err, rules}
use Rattle.record_tables.specs.CodeRows.{record_of}
use Rattle.record_archive.specs.Archive.{Archive, has_number}
use Rattle.record_store.proofs.Causes.{not_own-lost_or, fits_kept}
use Rattle.record_store.proofs.CommandLemmas.{stands_looked, still_looked}
use Rattle.record_store.proofs.store.Store.record_at.Goals as goal

pub returns-in-Ok-Some-clause-tells : goal.returns-in-Ok-Some-clause-tells
returns-in-Ok-Some-clause-tells g c = λ (a : Archive) s. (
  stands_looked g.S.Store c.args.self.now _ a s c.record_by_number.ensures.looks refl refl (λ n. refl) (λ m. refl),
  λ clean.
      let kept = s.rows (c.record_by_number.ensures.looks.falls clean) (c.in-Ok-Some.ensures.open clean).0 in
      sym (c.in-Ok-Some.ensures.record clean kept.tables kept.stored kept.keyed ∙ ap (find (has_number c.args.number)) kept.keeps.records)
      ∙ ap (option_map record_of) c.in-Ok-Some.field-0-is,
)

pub returns-in-Ok-None-clause-tells : goal.returns-in-Ok-None-clause-tells
returns-in-Ok-None-clause-tells g c = λ (a : Archive) s. (
  stands_looked g.S.Store c.args.self.now _ a s c.record_by_number.ensures.looks refl refl (λ n. refl) (λ m. refl),
  λ clean r is.
      let kept = s.rows (c.record_by_number.ensures.looks.falls clean) (c.in-Ok-None.ensures.open clean).0 in (
        cc,
        sym (c.in-Ok-None.ensures.record clean kept.tables kept.stored kept.keyed ∙ ap (find (has_number c.args.number)) kept.keeps.records)
            ∙ ap (option_map record_of) c.in-Ok-None.field-0-is,
      ),
)

pub returns-in-Err-clause-behaves : goal.returns-in-Err-clause-behaves
returns-in-Err-clause-behaves g c = record {
  falls = search rules;
  cause = λ (a : Archive) s clean. not_own-lost_or _ c.in-Err.fault c.lost_or.ensures (λ e.
      let kept = s.rows (c.record_by_number.ensures.looks.falls clean) (c.in-Err.ensures.seen clean (ap Err e)) in
      c.in-Err.ensures.none clean (ap Err e) kept.tables kept.stored kept.keyed (fits_kept a _ kept s.archive));
  «open» = search rules;
}

pub returns-in-Ok-Some-clause-still : goal.returns-in-Ok-Some-clause-still
returns-in-Ok-Some-clause-still g c = still_looked g.S.Store c.args.self.now c.record_by_number.new.conn c.record_by_number.ensures.looks

pub returns-in-Ok-None-clause-still : goal.returns-in-Ok-None-clause-still
returns-in-Ok-None-clause-still g c = still_looked g.S.Store c.args.self.now c.record_by_number.new.conn c.record_by_number.ensures.looks

pub returns-in-Err-clause-still : goal.returns-in-Err-clause-still
returns-in-Err-clause-still g c = still_looked g.S.Store c.args.self.now c.record_by_number.new.conn c.record_by_number.ensures.looks
