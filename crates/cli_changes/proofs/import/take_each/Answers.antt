use Rattle.cli_changes.proofs.ImportLaws.{finds_none, finds_then, stops_then}
use Rattle.mail_import.proofs.Taken.{on_err}
use Rattle.cli_changes.proofs.import.take_each.Goals as goal

pub loop-source-init : goal.loop-source-init
loop-source-init g c = finds_none g.A.Records.keeper c.args.terms.now c.args.room.now c.args.progress.now

pub loop-source-preserved : goal.loop-source-preserved
loop-source-preserved g c =
    finds_then g.A.Records.keeper c.args.terms.now c.args.room.now c.loop-source.room c.take_source.new.room c.args.progress.now
    c.loop-source.progress c.take_source.new.progress c.loop-source.invariant c.in_ok-take_source.ensures.taken

pub returns-in_err-take_source-clause-ended : goal.returns-in_err-take_source-clause-ended
returns-in_err-take_source-clause-ended g c =
    on_err _ _ (stops_then g.A.Records.keeper c.args.terms.now _ c.args.room.now c.loop-source.room c.take_source.new.room c.args.progress.now
    c.loop-source.progress c.take_source.new.progress c.loop-source.invariant c.in_err-take_source.ensures.ended)
