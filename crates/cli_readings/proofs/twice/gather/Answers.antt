use Rattle.std.proofs.Common.{◌∙◌, None, ap, map}
use Rattle.record_archive.specs.Archive.{Archive}
use Rattle.record_choice.specs.Choices.{Choice, chosen}
use Rattle.record_choice.specs.Entries.{entry_of}
use Rattle.cli_readings.proofs.twice.gather.Goals as goal

pub returns-clause-gathered : goal.returns-clause-gathered
returns-clause-gathered g c = λ clean (a : Archive) s.
    let took = c.in_ok-read_chosen.ensures.taken clean a s in record {
      gathered = took.2.gathered;
      all = record {
        entries = took.0;
        all = took.1 ∙ ap (λ (d : Choice). map (entry_of a) (chosen None d a)) c.live.ensures;
        each = took.2.are;
      };
      added = took.2.added;
    }
