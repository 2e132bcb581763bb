use Rattle.std.proofs.Common.{◌≡◌, ◌++◌, drop}
use Rattle.std.specs.List.{flat_map}
use Rattle.clap.specs.Matches.{found_of}
use Rattle.command_lines.specs.Numbers.{listed}
use Rattle.command_lines.specs.Readings.{format_by, formats_in}
use Rattle.command_lines.proofs.archives.format_asked.Given as goal

abbrev pub invariant-loop-name : goal.invariant-loop-name
invariant-loop-name l =
    listed l.format ++ flat_map (λ p. format_by (found_of l.asked) (p.0.now, p.1)) (drop l.name-index l.name-items)
    ≡ formats_in (found_of l.asked)
