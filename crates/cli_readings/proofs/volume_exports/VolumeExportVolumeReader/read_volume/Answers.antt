use Rattle.std.proofs.Common.{◌∙◌, ap, is_ok, sym}
use Rattle.record_archive.specs.Archive.{Archive}
use Rattle.cli_console.specs.Finds.{found_in, missing_of}
use Rattle.cli_console.proofs.JoinedLaws.{if_well, none_missing, none_refused, not_refused}
use Rattle.cli_readings.proofs.VolumeExportLaws.{exported_in}
use Rattle.cli_readings.proofs.volume_exports.VolumeExportVolumeReader.read_volume.Goals as goal

pub returns : goal.returns
returns g c = if_well c.end.result (λ well clean (a : Archive) s.
    let found = found_in c.args.choice.now c.args.questions.now a in
    let last = not_refused c.end_volume.new.joined.is_refused (sym c.end.ensures.well ∙ well) in
    let on = none_refused c.new-joined.result.is_refused c.add.new.self.is_refused c.end_in.result c.add.result c.add.ensures.refused
    c.add.ensures.goes_on (ap is_ok c.in_ok-add.was) (c.in_ok-end_volume.ensures.refused last) in
    let none = none_missing (missing_of c.in_ok-search.search) c.end_in.result c.end_in.ensures.found on.1 in
    let before = c.end_in.ensures.reads.falls (c.end_volume.ensures.glances.falls clean) in
    let stands = c.of.ensures.glances.stands a s in record {
      took = exported_in c.args.volume a c.in_ok-seals.seals found c.args.self.now.export c.add_volume.new.self c.end_volume.new.self.export
          (c.in_ok-search.ensures.added before a stands) (c.in_ok-search.ensures.begun before a stands) c.end_volume.ensures.kept;
      each_found = sym (c.in_ok-search.ensures.ended before a stands) ∙ none;
    })
