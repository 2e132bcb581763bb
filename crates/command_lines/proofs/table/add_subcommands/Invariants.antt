use Rattle.std.proofs.Common.{◌≡◌, ◌++◌, map, take}
use Rattle.clap.specs.Simple.{shape_of}
use Rattle.command_lines.specs.Tables.{shape_of_table}
use Rattle.command_lines.specs.declared.table.Values.TheVariants.{Plain}
use Rattle.command_lines.proofs.table.add_subcommands.Given as goal

abbrev pub invariant-loop-described : goal.invariant-loop-described
invariant-loop-described l =
    l.values ≡ Plain
    → map shape_of l.subcommands.items
    ≡ map shape_of l.initial.subcommands.items ++ map (shape_of_table l.shared) (take l.described-index l.group)
