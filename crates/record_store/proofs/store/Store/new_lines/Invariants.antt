use Rattle.std.proofs.Common.{◌≡◌, map, take}
use Rattle.std.specs.List.{All}
use Rattle.class_plan.specs.Calendar.{number_of_day}
use Rattle.record_store.specs.Captures.{HasDueDay, lines_of}
use Rattle.record_archive.specs.Lines.{line_view}
use Rattle.record_store.proofs.store.Store.new_lines.Given as goal

abbrev pub invariant-loop-i : goal.invariant-loop-i
invariant-loop-i g l = record {
  lines : map line_view l.lines.items ≡ lines_of l.self.plan l.first (number_of_day l.day) (take l.i l.paths);
  days : All HasDueDay l.lines.items;
}
