use Rattle.std.proofs.Common.{◌≡◌, refl}
use Rattle.record_archive.specs.Archive as archive
use Rattle.record_archive.specs.Calls.{Quietly}
use Rattle.record_history.specs.Events.{Released}
use Rattle.record_noted.specs.declared.opening.Opened.TheVariants.{Noted, Plain}
use Rattle.record_ledger.proofs.LiftLemmas.{noted_notes, noted_out, plain_notes, plain_out}
use Rattle.record_ledger.proofs.records.LedgerRecords.release.Goals as goal

pub returns-in-Plain : goal.returns-in-Plain
returns-in-Plain g c =
    let new = record c.args.self.now { kept = Plain c.release.new.self } in
    record {
      carries =
          plain_out g.S.Store (λ a. archive.release a c.args.name.now c.args.number)
          Quietly c.args.self.now new _ c.release.new.self c.release.result c.in-Plain.is refl c.release.ensures;
      notes =
          plain_notes g.S.Store (λ a. archive.release a c.args.name.now c.args.number)
          Quietly c.args.self.now new _ c.release.new.self
          (λ a d. d ≡ Released c.args.name.now c.args.number) c.release.result c.in-Plain.is refl refl;
    }

pub returns-in-Noted : goal.returns-in-Noted
returns-in-Noted g c =
    let new = record c.args.self.now { kept = Noted c.release-in-Noted.new.noted } in
    record {
      carries =
          noted_out g.S.Store (λ a. archive.release a c.args.name.now c.args.number)
          Quietly c.args.self.now new _ c.release-in-Noted.new.noted c.release-in-Noted.result c.in-Noted.is refl
          c.release-in-Noted.ensures.carries;
      notes =
          noted_notes g.S.Store (λ a. archive.release a c.args.name.now c.args.number)
          Quietly c.args.self.now new _ c.release-in-Noted.new.noted
          (λ a d. d ≡ Released c.args.name.now c.args.number) c.release-in-Noted.result c.in-Noted.is refl refl c.release-in-Noted.ensures.notes;
    }
