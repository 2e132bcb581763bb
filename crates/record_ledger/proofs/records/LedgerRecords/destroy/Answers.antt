use Rattle.std.proofs.Common.{refl}
use Rattle.jiff.specs.Words.{epoch_day}
use Rattle.record_archive.specs.Archive as archive
use Rattle.record_archive.specs.Calls.{Quietly}
use Rattle.record_noted.specs.declared.opening.Opened.TheVariants.{Noted, Plain}
use Rattle.record_ledger.specs.Notes.{number_since_1970 as number_since}
use Rattle.record_ledger.specs.Notings.{IsDestruction}
use Rattle.record_ledger.proofs.LiftLemmas.{noted_notes, noted_out, plain_notes, plain_out}
use Rattle.record_ledger.proofs.records.LedgerRecords.destroy.Goals as goal

pub returns-in-Plain : goal.returns-in-Plain
returns-in-Plain g c =
    let new = record c.args.self.now { kept = Plain c.destroy.new.self } in
    record {
      carries =
          plain_out g.S.Store (λ a. archive.destroy_on a c.args.number (epoch_day c.args.day))
          Quietly c.args.self.now new _ c.destroy.new.self c.destroy.result c.in-Plain.is refl c.destroy.ensures;
      notes =
          plain_notes g.S.Store (λ a. archive.destroy_on a c.args.number (epoch_day c.args.day))
          Quietly c.args.self.now new _ c.destroy.new.self
          (IsDestruction c.args.number (number_since c.args.day)) c.destroy.result c.in-Plain.is refl refl;
    }

pub returns-in-Noted : goal.returns-in-Noted
returns-in-Noted g c =
    let new = record c.args.self.now { kept = Noted c.destroy-in-Noted.new.noted } in
    record {
      carries =
          noted_out g.S.Store (λ a. archive.destroy_on a c.args.number (epoch_day c.args.day))
          Quietly c.args.self.now new _ c.destroy-in-Noted.new.noted c.destroy-in-Noted.result c.in-Noted.is refl
          c.destroy-in-Noted.ensures.carries;
      notes =
          noted_notes g.S.Store (λ a. archive.destroy_on a c.args.number (epoch_day c.args.day))
          Quietly c.args.self.now new _ c.destroy-in-Noted.new.noted
          (IsDestruction c.args.number (number_since c.args.day)) c.destroy-in-Noted.result c.in-Noted.is refl refl c.destroy-in-Noted.ensures.notes;
    }
