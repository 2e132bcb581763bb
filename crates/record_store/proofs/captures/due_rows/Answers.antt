use Rattle.std.proofs.Common.{map}
use Rattle.record_tables.specs.CodeRows.{due_of}
use Rattle.record_archive.specs.Lines.{line_view}
use Rattle.record_store.proofs.CaptureLemmas.{dues_next}
use Rattle.record_store.proofs.captures.due_rows.Goals as goal

pub loop-line-preserved : goal.loop-line-preserved
loop-line-preserved c =
    dues_next line_view c.args.lines.now c.line-item.result c.loop-line.line-index (map due_of c.loop-line.dues.items)
    (map due_of c.push_due.new.dues.items) c.loop-line-test.true c.line-item.is c.loop-line.invariant
    c.in_ok-push_due.ensures
