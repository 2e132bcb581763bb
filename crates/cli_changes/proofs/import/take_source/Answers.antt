use Rattle.cli_changes.proofs.ImportLaws.{finds_then, found_all, quiet_finds, source_finds, stops_quiet, stops_then}
use Rattle.mail_import.proofs.Taken.{on_err}
use Rattle.cli_changes.proofs.import.take_source.Goals as goal

pub returns-in_err-begin_source-clause-ended : goal.returns-in_err-begin_source-clause-ended
returns-in_err-begin_source-clause-ended g c =
    on_err _ _ (stops_quiet g.A.Records.keeper c.args.terms.now c.args.room.now c.begin_source.new.self c.args.progress.now c.begin_source.ensures)

pub returns-in_err-import_sources-clause-ended : goal.returns-in_err-import_sources-clause-ended
returns-in_err-import_sources-clause-ended g c =
    let keeper = g.A.Records.keeper in
    let terms = c.args.terms.now in
    on_err _ _ (stops_then keeper terms _ c.args.room.now c.begin_source.new.self c.import_sources.new.room c.args.progress.now c.args.progress.now
    c.import_sources.new.progress (quiet_finds keeper terms c.args.room.now c.begin_source.new.self c.args.progress.now c.begin_source.ensures)
    c.in_err-import_sources.ensures.ended)

pub returns-clause-taken : goal.returns-clause-taken
returns-clause-taken g c =
    let keeper = g.A.Records.keeper in
    let terms = c.args.terms.now in
    let room = c.args.room.now in
    let begun = c.begin_source.new.self in
    let taken = c.import_sources.new.room in
    let p = c.args.progress.now in
    let q = c.import_sources.new.progress in
    finds_then keeper terms room taken c.end_source.new.self p q q
    (finds_then keeper terms room begun taken p p q (quiet_finds keeper terms room begun p c.begin_source.ensures)
    (found_all keeper terms _ begun taken p q c.in_ok-import_sources.ensures.taken))
    (source_finds keeper terms taken c.end_source.new.self q c.end_source.ensures)
