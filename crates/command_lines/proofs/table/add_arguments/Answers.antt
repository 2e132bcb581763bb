use Rattle.std.proofs.Common.{ap, ◌∙◌}
use Rattle.clap.specs.Walk.{rule_of}
use Rattle.command_lines.specs.Tables.{argument_of_word}
use Rattle.command_lines.proofs.TableLemmas.{pushed}
use Rattle.command_lines.proofs.table.add_arguments.Goals as goal

pub loop-word-preserved : goal.loop-word-preserved
loop-word-preserved c plain =
    pushed rule_of argument_of_word _ _ _ c.taking.result c.args.words.now c.loop-word.word-index _ c.loop-word-test.true
    (c.loop-word.invariant plain) c.in_ok-push.ensures.items (ap rule_of (c.taking.ensures plain) ∙ c.in_ok-argument.ensures)
