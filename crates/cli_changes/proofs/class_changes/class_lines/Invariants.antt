use Rattle.std.proofs.Common.{◌≡◌, ◌++◌, drop, flat_map, map}
use Rattle.class_plan.specs.Parts.{answer_row}
use Rattle.class_plan.specs.Plans.{Row}
use Rattle.cli_changes.specs.ClassChanges.{class_in, class_lines, line_if_changed}
use Rattle.cli_changes.proofs.class_changes.class_lines.Given as goal

abbrev pub invariant-loop-path : goal.invariant-loop-path
invariant-loop-path l =
    l.text ++ flat_map (λ (r : Row). line_if_changed r.path (class_in l.present r.path) (class_in l.new r.path))
    (map answer_row (drop l.path-index l.path-items))
    ≡ class_lines l.present l.new
