use Rattle.std.proofs.Common.{◌∙◌, sym}
use Rattle.record_archive.specs.Archive.{Archive}
use Rattle.cli_console.specs.Finds.{missing_of}
use Rattle.cli_console.proofs.JoinedLaws.{if_well, none_missing}
use Rattle.cli_readings.proofs.volume_lists.VolumeListVolumeReader.read_volume.Goals as goal

pub returns : goal.returns
returns g c = if_well c.end_in.result (λ well clean (a : Archive) s.
    let before = c.end_in.ensures.reads.falls clean in
    let none = none_missing (missing_of c.in_ok-search.search) c.end_in.result c.end_in.ensures.found well in
    record { took = c.in_ok-search.ensures.added before a s; each_found = sym (c.in_ok-search.ensures.ended before a s) ∙ none })
