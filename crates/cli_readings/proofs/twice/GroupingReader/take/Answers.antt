use Rattle.std.proofs.Common.{refl}
use Rattle.record_archive.specs.Archive.{Archive}
use Rattle.cli_readings.specs.Groups.{key_of}
use Rattle.cli_readings.specs.Twice.{one_gathered}
use Rattle.cli_readings.proofs.twice.GroupingReader.take.Goals as goal

pub returns-clause-taken : goal.returns-clause-taken
returns-clause-taken g c = λ clean (a : Archive) s told.
    one_gathered c.args.self.now (record c.args.self.now { groups = c.add.new.self }) a c.args.entry.now (key_of c.in_ok-seal.seal)
    (c.in_ok-seal.ensures.told clean a s) c.in_ok-add.ensures refl refl
