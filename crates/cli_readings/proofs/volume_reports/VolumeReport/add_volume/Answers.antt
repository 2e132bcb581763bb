use Rattle.std.proofs.Common.{◌∙◌}
use Rattle.record_archive.specs.Archive.{Archive}
use Rattle.cli_console.specs.Finds.{found_in}
use Rattle.cli_readings.proofs.Ended.{search_ended}
use Rattle.cli_readings.proofs.VolumeReportLaws.{volume_reported}
use Rattle.cli_readings.proofs.volume_reports.VolumeReport.add_volume.Goals as goal

pub returns-clause-added : goal.returns-clause-added
returns-clause-added g c = λ clean (a : Archive) s.
    let is = g.met.R.Repository.is_archive c.args.archive.now a s in
    let took = c.in_ok-read_found.ensures.taken clean a s in (
      took.0,
      took.1 ∙ c.in_ok-search.ensures.found a is,
      volume_reported c.args.volume c.args.self.now c.read_found.new.reader a took.0 took.2,
    )

pub returns-clause-ended : goal.returns-clause-ended
returns-clause-ended g c = λ clean (a : Archive) s.
    let is = g.met.R.Repository.is_archive c.args.archive.now a s in
    search_ended c.args.choice.now (found_in c.args.choice.now c.args.questions.now a) c.in_ok-search.search c.read_found.new.self a
    c.in_ok-search.ensures.typed c.in_ok-search.ensures.none (c.in_ok-search.ensures.found a is) (c.in_ok-read_found.ensures.ended clean a s)
