use Rattle.std.proofs.Common.{◌≡◌, map, take}
use Rattle.record_tables.specs.CodeRows.{due_of}
use Rattle.record_store.specs.Captures.{dues_of_lines}
use Rattle.record_archive.specs.Lines.{line_view}
use Rattle.record_store.proofs.captures.due_rows.Given as goal

abbrev pub invariant-loop-line : goal.invariant-loop-line
invariant-loop-line l = map due_of l.dues.items ≡ dues_of_lines (map line_view (take l.line-index l.lines))
