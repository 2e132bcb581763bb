use Rattle.std.proofs.Common.{◌≡◌, refl}
use Rattle.record_archive.specs.Archive as archive
use Rattle.record_archive.specs.Calls.{Quietly}
use Rattle.record_history.specs.Events.{Held}
use Rattle.record_noted.specs.declared.opening.Opened.TheVariants.{Noted, Plain}
use Rattle.record_ledger.proofs.LiftLemmas.{noted_notes, noted_out, plain_notes, plain_out}
use Rattle.record_ledger.proofs.records.LedgerRecords.hold.Goals as goal

pub returns-in-Plain : goal.returns-in-Plain
returns-in-Plain g c =
    let new = record c.args.self.now { kept = Plain c.hold.new.self } in
    record {
      carries =
          plain_out g.S.Store (λ a. archive.hold a c.args.name.now c.args.number)
          Quietly c.args.self.now new _ c.hold.new.self c.hold.result c.in-Plain.is refl c.hold.ensures;
      notes =
          plain_notes g.S.Store (λ a. archive.hold a c.args.name.now c.args.number)
          Quietly c.args.self.now new _ c.hold.new.self
          (λ a d. d ≡ Held c.args.name.now c.args.number) c.hold.result c.in-Plain.is refl refl;
    }

pub returns-in-Noted : goal.returns-in-Noted
returns-in-Noted g c =
    let new = record c.args.self.now { kept = Noted c.hold-in-Noted.new.noted } in
    record {
      carries =
          noted_out g.S.Store (λ a. archive.hold a c.args.name.now c.args.number)
          Quietly c.args.self.now new _ c.hold-in-Noted.new.noted c.hold-in-Noted.result c.in-Noted.is refl
          c.hold-in-Noted.ensures.carries;
      notes =
          noted_notes g.S.Store (λ a. archive.hold a c.args.name.now c.args.number)
          Quietly c.args.self.now new _ c.hold-in-Noted.new.noted
          (λ a d. d ≡ Held c.args.name.now c.args.number) c.hold-in-Noted.result c.in-Noted.is refl refl c.hold-in-Noted.ensures.notes;
    }
