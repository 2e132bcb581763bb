use Rattle.std.proofs.Common.{◌∙◌, ap, is_ok, sym}
use Rattle.record_archive.specs.Archive.{Archive}
use Rattle.cli_console.specs.Finds.{missing_of}
use Rattle.cli_console.proofs.JoinedLaws.{none_missing}
use Rattle.cli_readings.proofs.list.write_list.Goals as goal

pub returns-clause-listed : goal.returns-clause-listed
returns-clause-listed g c = λ clean (a : Archive) s.
    let before = c.end.ensures.reads.falls clean in
    let none = none_missing (missing_of c.in_ok-search.search) c.end.result c.end.ensures.found (ap is_ok c.in_ok-end.was) in
    record { took = c.in_ok-search.ensures.listed before a s; each_found = sym (c.in_ok-search.ensures.ended before a s) ∙ none }
