use Rattle.std.proofs.Common.{◌≡◌, ◌∙◌, Some, ap, subst}
use Rattle.std.specs.Prelude.{Ok}
use Rattle.record_archive.specs.Archive.{Archive, message}
use Rattle.record_choice.proofs.DestructionLaws.{found_has}
use Rattle.record_choice.specs.Entries.{RecordEntry}
use Rattle.cli_readings.proofs.show.message_of_record.Goals as goal

pub returns-clause-reads : goal.returns-clause-reads
returns-clause-reads g c = record {
  stands = λ (a : Archive) s. c.in_ok-message.ensures.reads.stands a (c.entry_of.ensures.reads.stands a s);
  falls = λ clean. c.entry_of.ensures.reads.falls (c.in_ok-message.ensures.reads.falls clean);
}

pub returns-clause-told : goal.returns-clause-told
returns-clause-told g c = λ clean (a : Archive) s.
    let number = c.args.typed.number in
    let told = c.in_ok-entry.ensures.told (c.in_ok-message.ensures.reads.falls clean) a s in
    let own : c.in_ok-entry.entry.number ≡ number = ap (λ (e : RecordEntry). e.number) told.2 ∙ found_has number a.records told.0 told.1 in
    subst (λ n. message a n ≡ Ok (Some c.in_ok-message.message.items)) own
    (c.in_ok-message.ensures.told clean a (c.entry_of.ensures.reads.stands a s))

pub returns-clause-captured : goal.returns-clause-captured
returns-clause-captured g c = λ clean (a : Archive) s. record {
  entry = c.in_ok-entry.entry;
  is_entry = c.in_ok-entry.ensures.told (c.in_ok-message.ensures.reads.falls clean) a s;
  read = c.entry_of.new.archive;
  stands = c.entry_of.ensures.reads.stands a s;
  captured = c.in_ok-message.ensures.captured clean a (c.entry_of.ensures.reads.stands a s);
}
