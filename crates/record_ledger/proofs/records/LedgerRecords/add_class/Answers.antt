use Rattle.std.proofs.Common.{◌≡◌, refl}
use Rattle.record_archive.specs.Archive as archive
use Rattle.record_archive.specs.Calls.{Quietly}
use Rattle.record_history.specs.Events.{ClassAdded}
use Rattle.record_noted.specs.declared.opening.Opened.TheVariants.{Noted, Plain}
use Rattle.record_ledger.proofs.LiftLemmas.{noted_notes, noted_out, plain_notes, plain_out}
use Rattle.record_ledger.proofs.records.LedgerRecords.add_class.Goals as goal

pub returns-in-Plain : goal.returns-in-Plain
returns-in-Plain g c =
    let new = record c.args.self.now { kept = Plain c.add_class.new.self } in
    record {
      carries =
          plain_out g.S.Store (λ a. archive.add_class a c.args.path.now)
          Quietly c.args.self.now new _ c.add_class.new.self c.add_class.result c.in-Plain.is refl c.add_class.ensures;
      notes =
          plain_notes g.S.Store (λ a. archive.add_class a c.args.path.now)
          Quietly c.args.self.now new _ c.add_class.new.self
          (λ a d. d ≡ ClassAdded c.args.path.now) c.add_class.result c.in-Plain.is refl refl;
    }

pub returns-in-Noted : goal.returns-in-Noted
returns-in-Noted g c =
    let new = record c.args.self.now { kept = Noted c.add_class-in-Noted.new.noted } in
    record {
      carries =
          noted_out g.S.Store (λ a. archive.add_class a c.args.path.now)
          Quietly c.args.self.now new _ c.add_class-in-Noted.new.noted c.add_class-in-Noted.result c.in-Noted.is refl
          c.add_class-in-Noted.ensures.carries;
      notes =
          noted_notes g.S.Store (λ a. archive.add_class a c.args.path.now)
          Quietly c.args.self.now new _ c.add_class-in-Noted.new.noted
          (λ a d. d ≡ ClassAdded c.args.path.now) c.add_class-in-Noted.result c.in-Noted.is refl refl c.add_class-in-Noted.ensures.notes;
    }
