-- The table of `mailfile-tool`, and the words that are read by it.
use Rattle.std.proofs.Common.{◌≡◌, ◌++◌, List, [], true, codes, map, refl, sym, ap, ◌∙◌, append-nil}
use Rattle.clap.specs.Simple.{HasMatchesOf, is_simple, subcommand_rows_of}
use Rattle.clap.specs.Walk.{Text, rows_of}
use Rattle.clap.specs.declared.parser.matches.ArgMatches.{ArgMatches}
use Rattle.command_lines.specs.Tables.{app_over, shape_of_table}
use Rattle.command_lines.specs.ToolTable.{tool_app, tools}
use Rattle.command_lines.specs.Tools.{IsFound, IsToolRead}
use Rattle.command_lines.specs.declared.table.Subcommand.{Subcommand}
use Rattle.command_lines.specs.declared.table.Word.{Word}
use Rattle.command_lines.specs.declared.tools.Command.{Command}
use Rattle.command_lines.proofs.StoreLemmas.{name_of_rows, paired}

pub tool_simple : is_simple tool_app ≡ true
unfolding tool_app
tool_simple = refl

pub command_typed : (words : List Text) (m : ArgMatches) (command : Command) → HasMatchesOf tool_app words m → IsFound m command
    → IsToolRead words command
command_typed words m command has is = (
  is.0,
  is.1,
  sym (has tool_simple).1 ∙ paired (subcommand_rows_of m) is.0 (rows_of is.1) (name_of_rows m ∙ is.2) is.3,
  is.4,
)

pub tool_app_of : (shared : List Word) (group : List Subcommand) → map (shape_of_table shared) group ≡ tools
    → app_over (codes "mailfile-tool") (map (shape_of_table shared) (group ++ [])) ≡ tool_app
unfolding tool_app
tool_app_of shared group e =
    ap (λ l. app_over (codes "mailfile-tool") (map (shape_of_table shared) l)) (append-nil group) ∙ ap (app_over (codes "mailfile-tool")) e
