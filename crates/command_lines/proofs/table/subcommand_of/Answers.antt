use Rattle.std.proofs.Common.{◌≡◌, ◌++◌, ◌∙◌, ap, map, rules}
use Rattle.std.proofs.lemmas.Result.{IfOk-weaker}
use Rattle.clap.specs.Simple.{app_of, new_app}
use Rattle.command_lines.specs.Tables.{argument_of_word, with_arguments}
use Rattle.command_lines.proofs.TableLemmas.{with_rules, words_app}
use Rattle.command_lines.proofs.table.subcommand_of.Goals as goal

pub returns : goal.returns
returns c plain =
    let words = c.args.described.now.words.now in
    let own = words ++ c.shared_by-shared.result.now in
    let bare : app_of c.after_help.result ≡ new_app c.args.described.now.name.now = search rules in
    IfOk-weaker c.args-2.result _ _ (λ r adds. ap (λ a. a.top)
    (words_app c.after_help.result r c.in_ok-arguments.arguments.items own adds (c.in_ok-arguments.ensures plain)
    ∙ ap (λ a. with_rules a (map argument_of_word own)) bare)
    ∙ ap (λ l. with_arguments c.args.described.now.name.now (map argument_of_word (words ++ l))) c.shared_by-shared.ensures)
    c.args-2.ensures
