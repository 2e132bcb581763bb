-- The words of `mailfile`.
use Rattle.std.proofs.Common.{◌≡◌, ◌∙◌, List, [], ◌∷◌, map, true, codes, refl, ap}
use Rattle.clap.specs.Matches.{found_of}
use Rattle.clap.specs.Simple.{HasMatchesOf, app_of, is_simple, matches_of}
use Rattle.clap.specs.declared.parser.matches.ArgMatches.{ArgMatches}
use Rattle.clap.proofs.WalkLemmas.{first_value-rows}
use Rattle.clap.specs.Built.{AddsArg, AddsInTurn}
use Rattle.clap.specs.Walk.{Text, first_of, rule_of}
use Rattle.clap.specs.declared.builder.arg.Arg.{Arg}
use Rattle.clap.specs.declared.builder.command.Command.{Command}
use Rattle.command_lines.specs.Asked.{value_in}
use Rattle.command_lines.specs.SessionTable.{session_app}
use Rattle.command_lines.specs.Tables.{app_alone, option}
use Rattle.command_lines.proofs.TableLemmas.{rules_app, with_rules}

session_simple : is_simple session_app ≡ true
unfolding session_app
session_simple = refl

-- the value of `--store` is that of the words that are typed
pub session_value : (words : List Text) (m : ArgMatches) → HasMatchesOf session_app words m
    → value_in (found_of m) (codes "store") ≡ first_of (codes "store") (matches_of session_app words)
session_value words m has =
    first_value-rows (found_of m) (codes "store") ∙ ap (first_of (codes "store")) (has session_simple).0

-- the command line that has the words of `mailfile`
pub session_app_of : (bare new : Command) (xs : List Arg) → app_of bare ≡ app_alone (codes "mailfile") []
    → AddsInTurn AddsArg bare xs new → map rule_of xs ≡ option (codes "store") ∷ [] → app_of new ≡ session_app
unfolding session_app
session_app_of bare new xs alone adds are =
    rules_app bare new xs (option (codes "store") ∷ []) adds are refl ∙ ap (λ a. with_rules a (option (codes "store") ∷ [])) alone
