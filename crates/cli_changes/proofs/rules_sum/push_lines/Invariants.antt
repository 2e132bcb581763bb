use Rattle.std.proofs.Common.{◌≡◌, ◌++◌, drop, flat_map, string_bytes}
use Rattle.cli_changes.specs.RuleSums.{script_line}
use Rattle.cli_changes.proofs.rules_sum.push_lines.Given as goal

abbrev pub invariant-loop-script : goal.invariant-loop-script
invariant-loop-script l =
    string_bytes l.lines ++ flat_map (script_line l.folder) (drop l.script-index l.scripts)
    ≡ string_bytes l.initial.lines ++ flat_map (script_line l.folder) l.scripts
