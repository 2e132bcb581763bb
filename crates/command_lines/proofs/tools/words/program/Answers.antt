use Rattle.std.proofs.Common.{◌∙◌, [], ap, codes, map}
use Rattle.std.specs.Prelude.{flat_map}
use Rattle.command_lines.specs.Tables.{app_over, shape_of_table}
use Rattle.command_lines.proofs.ToolLemmas.{tool_app_of}
use Rattle.command_lines.proofs.tools.words.program.Goals as goal

pub returns : goal.returns
returns c =
    ap (λ groups. app_over (codes "mailfile-tool") (map (shape_of_table []) (flat_map (λ group. group.now) groups))) c.in_ok-vec.ensures.items
    ∙ tool_app_of [] c.subcommands.result.now (c.subcommands.ensures [])
