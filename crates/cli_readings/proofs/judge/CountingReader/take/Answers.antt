use Rattle.std.proofs.Common.{refl}
use Rattle.record_archive.specs.Archive.{Archive}
use Rattle.cli_readings.proofs.judge.CountingReader.take.Goals as goal

pub returns-clause-taken : goal.returns-clause-taken
returns-clause-taken g c = λ clean (a : Archive) s told. record {
  day = refl;
  figures = c.count.ensures;
  messages = (c.add.new.self, c.in_ok-add.ensures.counted clean a s, refl);
}
