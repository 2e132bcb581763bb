use Rattle.std.proofs.Common.{◌≡◌, ◌++◌, map, take}
use Rattle.clap.specs.Walk.{rule_of}
use Rattle.command_lines.specs.Tables.{argument_of_word}
use Rattle.command_lines.specs.declared.table.Values.TheVariants.{Plain}
use Rattle.command_lines.proofs.table.add_arguments.Given as goal

abbrev pub invariant-loop-word : goal.invariant-loop-word
invariant-loop-word l =
    l.values ≡ Plain
    → map rule_of l.arguments.items ≡ map rule_of l.initial.arguments.items ++ map argument_of_word (take l.word-index l.words)
