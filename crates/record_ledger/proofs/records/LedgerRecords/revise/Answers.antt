use Rattle.std.proofs.Common.{◌≡◌, refl}
use Rattle.record_archive.specs.Archive as archive
use Rattle.record_archive.specs.Calls.{Quietly}
use Rattle.record_history.specs.Events.{PlanReplaced}
use Rattle.record_noted.specs.declared.opening.Opened.TheVariants.{Noted, Plain}
use Rattle.record_ledger.proofs.LiftLemmas.{noted_notes, noted_out, plain_notes, plain_out}
use Rattle.record_ledger.proofs.records.LedgerRecords.revise.Goals as goal

pub returns-in-Plain : goal.returns-in-Plain
returns-in-Plain g c =
    let new = record c.args.self.now { kept = Plain c.revise.new.self } in
    record {
      carries =
          plain_out g.S.Store (λ a. archive.revise a c.args.plan)
          Quietly c.args.self.now new _ c.revise.new.self c.revise.result c.in-Plain.is refl c.revise.ensures;
      notes =
          plain_notes g.S.Store (λ a. archive.revise a c.args.plan)
          Quietly c.args.self.now new _ c.revise.new.self
          (λ a d. d ≡ PlanReplaced c.args.plan) c.revise.result c.in-Plain.is refl refl;
    }

pub returns-in-Noted : goal.returns-in-Noted
returns-in-Noted g c =
    let new = record c.args.self.now { kept = Noted c.revise-in-Noted.new.noted } in
    record {
      carries =
          noted_out g.S.Store (λ a. archive.revise a c.args.plan)
          Quietly c.args.self.now new _ c.revise-in-Noted.new.noted c.revise-in-Noted.result c.in-Noted.is refl
          c.revise-in-Noted.ensures.carries;
      notes =
          noted_notes g.S.Store (λ a. archive.revise a c.args.plan)
          Quietly c.args.self.now new _ c.revise-in-Noted.new.noted
          (λ a d. d ≡ PlanReplaced c.args.plan) c.revise-in-Noted.result c.in-Noted.is refl refl c.revise-in-Noted.ensures.notes;
    }
