use Rattle.std.proofs.Common.{◌≡◌, map, take}
use Rattle.std.specs.Prelude.{flat_map}
use Rattle.clap.specs.Simple.{shape_of}
use Rattle.command_lines.specs.Tables.{shape_of_table}
use Rattle.command_lines.specs.declared.table.Values.TheVariants.{Plain}
use Rattle.command_lines.proofs.table.subcommands_of.Given as goal

abbrev pub invariant-loop-group : goal.invariant-loop-group
invariant-loop-group l =
    l.values ≡ Plain
    → map shape_of l.subcommands.items
    ≡ map (shape_of_table l.program.shared.now) (flat_map (λ group. group.now) (take l.group-index l.group-items))
