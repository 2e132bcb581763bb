use Rattle.std.proofs.Common.{◌≡◌, map, refl}
use Rattle.class_plan.specs.Calendar.{number_of_day}
use Rattle.record_archive.specs.Archive as archive
use Rattle.record_archive.specs.Lines.{line_view}
use Rattle.record_noted.specs.declared.opening.Opened.TheVariants.{Noted, Plain}
use Rattle.record_ledger.specs.Notings.{captured}
use Rattle.record_ledger.proofs.LiftLemmas.{noted_notes, noted_out, plain_notes, plain_out}
use Rattle.record_ledger.proofs.records.LedgerRecords.capture.Goals as goal

pub returns-in-Plain : goal.returns-in-Plain
returns-in-Plain g c =
    let new = record c.args.self.now { kept = Plain c.capture.new.self } in
    record {
      carries =
          plain_out g.S.Store (λ a. archive.capture a c.args.body.now (number_of_day c.args.day) c.args.paths.now)
          (λ a lines. map line_view lines.items ≡ archive.capture_lines a (number_of_day c.args.day) c.args.paths.now)
          c.args.self.now new _ c.capture.new.self c.capture.result c.in-Plain.is refl c.capture.ensures;
      notes =
          λ some. plain_notes g.S.Store (λ a. archive.capture a c.args.body.now (number_of_day c.args.day) c.args.paths.now)
          (λ a lines. map line_view lines.items ≡ archive.capture_lines a (number_of_day c.args.day) c.args.paths.now)
          c.args.self.now new _ c.capture.new.self
          (λ a d. d ≡ captured c.args.self.now.occasion a c.args.body.now (number_of_day c.args.day) c.args.paths.now)
          c.capture.result c.in-Plain.is refl refl;
    }

pub returns-in-Noted : goal.returns-in-Noted
returns-in-Noted g c =
    let new = record c.args.self.now { kept = Noted c.capture-in-Noted.new.noted } in
    record {
      carries =
          noted_out g.S.Store (λ a. archive.capture a c.args.body.now (number_of_day c.args.day) c.args.paths.now)
          (λ a lines. map line_view lines.items ≡ archive.capture_lines a (number_of_day c.args.day) c.args.paths.now)
          c.args.self.now new _ c.capture-in-Noted.new.noted c.capture-in-Noted.result c.in-Noted.is refl
          c.capture-in-Noted.ensures.carries;
      notes =
          λ some. noted_notes g.S.Store (λ a. archive.capture a c.args.body.now (number_of_day c.args.day) c.args.paths.now)
          (λ a lines. map line_view lines.items ≡ archive.capture_lines a (number_of_day c.args.day) c.args.paths.now)
          c.args.self.now new _ c.capture-in-Noted.new.noted
          (λ a d. d ≡ captured c.args.self.now.occasion a c.args.body.now (number_of_day c.args.day) c.args.paths.now)
          c.capture-in-Noted.result c.in-Noted.is refl refl (c.capture-in-Noted.ensures.notes some);
    }
