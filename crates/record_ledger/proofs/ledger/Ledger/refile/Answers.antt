use Rattle.std.proofs.Common.{◌≡◌, refl}
use Rattle.record_archive.specs.Refiling as archive
use Rattle.record_archive.specs.Calls.{Quietly}
use Rattle.record_history.specs.Events.{Refiled}
use Rattle.record_noted.specs.declared.opening.Opened.TheVariants.{Noted, Plain}
use Rattle.record_ledger.proofs.LiftLemmas.{noted_notes, noted_out, plain_notes, plain_out}
use Rattle.record_ledger.proofs.ledger.Ledger.refile.Goals as goal

pub returns-in-Plain : goal.returns-in-Plain
returns-in-Plain g c =
    let new = record c.args.self.now { kept = Plain c.refile_plain.new.store } in
    record {
      carries =
          plain_out g.S.Store (λ a. archive.refile a c.args.number c.args.path.now)
          Quietly c.args.self.now new _ c.refile_plain.new.store c.refile_plain.result c.in-Plain.is refl c.refile_plain.ensures;
      notes =
          plain_notes g.S.Store (λ a. archive.refile a c.args.number c.args.path.now)
          Quietly c.args.self.now new _ c.refile_plain.new.store
          (λ a d. d ≡ Refiled c.args.number c.args.path.now) c.refile_plain.result c.in-Plain.is refl refl;
    }

pub returns-in-Noted : goal.returns-in-Noted
returns-in-Noted g c =
    let new = record c.args.self.now { kept = Noted c.refile.new.noted } in
    record {
      carries =
          noted_out g.S.Store (λ a. archive.refile a c.args.number c.args.path.now)
          Quietly c.args.self.now new _ c.refile.new.noted c.refile.result c.in-Noted.is refl
          c.refile.ensures.carries;
      notes =
          noted_notes g.S.Store (λ a. archive.refile a c.args.number c.args.path.now)
          Quietly c.args.self.now new _ c.refile.new.noted
          (λ a d. d ≡ Refiled c.args.number c.args.path.now) c.refile.result c.in-Noted.is refl refl c.refile.ensures.notes;
    }
