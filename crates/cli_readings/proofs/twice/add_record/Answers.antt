use Rattle.record_archive.specs.Archive.{Archive}
use Rattle.cli_readings.specs.Twice.{one_beside}
use Rattle.cli_readings.proofs.twice.add_record.Goals as goal

pub returns-clause-added : goal.returns-clause-added
returns-clause-added g c = λ clean (a : Archive) s.
    one_beside g.K.Sink.written a c.args.list.now c.push.new.self c.push_entry.new.list c.args.beside.now c.args.is_first c.args.sealed
    c.in_ok-entry.entry (c.in_ok-entry.ensures.told (c.push_entry.ensures.reads.falls clean) a s) c.in_ok-push.ensures.text c.in_ok-push.ensures.count
    c.in_ok-push.ensures.listing (c.in_ok-push_entry.ensures.pushed clean a (c.entry_of.ensures.reads.stands a s))
