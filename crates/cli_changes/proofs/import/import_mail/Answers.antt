use Rattle.std.proofs.Common.{ap, ◌∙◌}
use Rattle.record_ledger.specs.declared.ledger.Ledger.{Ledger}
use Rattle.cli_changes.proofs.import.import_mail.Goals as goal

pub returns : goal.returns
returns g c = record {
  noting = c.set_notes.new.self;
  kept = ap (λ (l : Ledger _ _). l.kept) c.set_notes.ensures;
  notes = ap (λ (l : Ledger _ _). l.occasion.notes.now) c.set_notes.ensures ∙ c.notes_of.ensures;
  done = c.import_into.ensures;
}
