use Rattle.record_archive.specs.Archive.{Archive}
use Rattle.cli_readings.proofs.twice.write_twice.Goals as goal

pub returns-clause-reads : goal.returns-clause-reads
returns-clause-reads g c = record {
  stands = λ (a : Archive) s. c.twice_to.ensures.reads.stands a (c.of.ensures.glances.stands a s);
  falls = λ clean. c.of.ensures.glances.falls (c.twice_to.ensures.reads.falls clean);
}

pub returns-clause-listed : goal.returns-clause-listed
returns-clause-listed g c = λ clean (a : Archive) s. record {
  seals = c.in_ok-seals.seals;
  told = λ ls kept. c.in_ok-seals.ensures.told (c.twice_to.ensures.reads.falls clean) a ls s kept;
  writes = c.in_ok-written.ensures.listed clean a (c.of.ensures.glances.stands a s);
}
