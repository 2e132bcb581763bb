use Rattle.std.proofs.Common.{◌≡◌, map, refl}
use Rattle.record_archive.specs.Archive.{due_list_on}
use Rattle.record_archive.specs.Calls.{unchanged}
use Rattle.record_archive.specs.Lines.{line_view}
use Rattle.jiff.specs.Words.{epoch_day}
use Rattle.record_noted.specs.declared.opening.Opened.TheVariants.{Noted, Plain}
use Rattle.record_ledger.proofs.LiftLemmas.{noted_out, plain_out}
use Rattle.record_ledger.proofs.records.LedgerRecords.due.Goals as goal

pub returns-in-Plain : goal.returns-in-Plain
returns-in-Plain g c =
    plain_out g.S.Store unchanged
    (λ a lines. map line_view lines.items ≡ due_list_on a (epoch_day c.args.day))
    c.args.self.now (record c.args.self.now { kept = Plain c.due.new.self }) _ c.due.new.self
    c.due.result c.in-Plain.is refl c.due.ensures

pub returns-in-Noted : goal.returns-in-Noted
returns-in-Noted g c =
    noted_out g.S.Store unchanged
    (λ a lines. map line_view lines.items ≡ due_list_on a (epoch_day c.args.day))
    c.args.self.now (record c.args.self.now { kept = Noted c.due-in-Noted.new.noted }) _ c.due-in-Noted.new.noted
    c.due-in-Noted.result c.in-Noted.is refl c.due-in-Noted.ensures
