use Rattle.std.proofs.Common.{◌≡◌, refl, subst}
use Rattle.std.specs.Prelude.{List, is_ok}
use Rattle.jiff.specs.Words.{epoch_day}
use Rattle.record_archive.specs.Archive.{Archive}
use Rattle.record_choice.specs.Disposals.{Certificate, HandsOver}
use Rattle.record_ledger.specs.Ledgers.{KeptFor}
use Rattle.cli_changes.specs.declared.altered.Damage.{Damage}
use Rattle.cli_changes.specs.Certificates.{IsTaken}
use Rattle.cli_changes.specs.Destructions.{DisposesUnaltered, IsRead}
use Rattle.cli_changes.proofs.dispose.dispose_of.Goals as goal

pub returns-in-Listed : goal.returns-in-Listed
returns-in-Listed g c = record {
  falls = λ clean. c.write_asked.ensures.reads.falls clean;
  any = c.write_asked.ensures.any;
  listed = λ e. (refl, c.write_asked.ensures.reads);
  destroyed = λ (damage : Damage) e. absurd cc;
}

pub returns-in-Destroyed : goal.returns-in-Destroyed
returns-in-Destroyed g c = record {
  falls = λ clean. c.destroy_asked.ensures.falls clean;
  any = c.destroy_asked.ensures.any;
  listed = λ e. absurd cc;
  destroyed = λ (damage : Damage) e.
      let same : c.in-Destroyed.damage ≡ damage = cc in
      subst (λ (d : Damage). (cs : List Certificate)
      × HandsOver (IsTaken g.P.Printer.prints) c.args.certificates.now cs c.destroy_asked.new.certificates
      × (IsRead g.S.Store c.destroy_asked.new.archive → (a : Archive) → KeptFor g.S.Store c.args.archive.now.kept a
      → DisposesUnaltered c.args.certificates.now.seals.now d (KeptFor g.S.Store c.destroy_asked.new.archive.kept) (epoch_day c.args.day)
      c.args.numbers.now (is_ok c.destroy_asked.result) cs a)) same c.destroy_asked.ensures.these;
}
