use Rattle.std.proofs.Common.{[]}
use Rattle.record_archive.specs.Archive.{Archive}
use Rattle.cli_readings.proofs.twice.groups_of.Goals as goal

pub returns-clause-twice : goal.returns-clause-twice
returns-clause-twice g c = λ clean (a : Archive) s.
    let took = c.in_ok-groups.ensures.gathered clean a s in record {
      gathered = took.gathered;
      all = took.all;
      twice = c.in_ok-into_twice.ensures took.gathered (took.added [] c.new.ensures);
    }
