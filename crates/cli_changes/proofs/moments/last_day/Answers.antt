use Rattle.record_archive.specs.Archive.{Archive}
use Rattle.cli_changes.proofs.DayLaws.{last_told, told_of_all}
use Rattle.cli_changes.proofs.moments.last_day.Goals as goal

pub returns-clause-last : goal.returns-clause-last
returns-clause-last g c = λ clean (a : Archive) s.
    let took = c.in_ok-read_chosen.ensures.taken clean a s in
    let found = c.read_chosen.new.reader.last in
    last_told a c.args.known found (told_of_all a _ c.args.known _ found c.every.ensures took.1 took.2)
