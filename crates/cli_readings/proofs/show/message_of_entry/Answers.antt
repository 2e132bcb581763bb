use Rattle.std.proofs.Common.{ℕ, List, Option}
use Rattle.record_archive.specs.Archive.{Archive}
use Rattle.record_history.specs.Events.{Event}
use Rattle.cli_history.specs.Seals.{known}
use Rattle.cli_readings.proofs.show.message_of_entry.Goals as goal

pub returns-clause-reads : goal.returns-clause-reads
returns-clause-reads g c = record {
  stands = λ (a : Archive) s. c.in_ok-octets.ensures.reads.stands a (c.of_message.ensures.glances.stands a s);
  falls = λ clean. c.of_message.ensures.glances.falls (c.in_ok-octets.ensures.reads.falls clean);
}

pub returns-clause-told : goal.returns-clause-told
returns-clause-told g c = λ clean (a : Archive) s. c.in_ok-octets.ensures.told clean a (c.of_message.ensures.glances.stands a s)

pub returns-clause-captured : goal.returns-clause-captured
returns-clause-captured g c = λ clean (a : Archive) s. record {
  last = known c.in_ok-seals.seals c.args.entry.now.message;
  told = λ (ls : List (List ℕ)) kept (told : List (Option Event)) tell.
      c.in_ok-seals.ensures.seal (c.in_ok-octets.ensures.reads.falls clean) a ls s kept told tell;
  are = c.in_ok-octets.ensures.captured;
}
