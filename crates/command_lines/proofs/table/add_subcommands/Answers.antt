use Rattle.clap.specs.Simple.{shape_of}
use Rattle.command_lines.specs.Tables.{shape_of_table}
use Rattle.command_lines.proofs.TableLemmas.{pushed}
use Rattle.command_lines.proofs.table.add_subcommands.Goals as goal

pub loop-described-preserved : goal.loop-described-preserved
loop-described-preserved c plain =
    pushed shape_of (shape_of_table c.args.shared.now) _ _ _ c.in_ok-subcommand_of.field-0 c.args.group.now c.loop-described.described-index _
    c.loop-described-test.true (c.loop-described.invariant plain) c.in_ok-push.ensures.items (c.in_ok-subcommand_of.ensures plain)
