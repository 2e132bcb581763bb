use Rattle.std.proofs.Common.{ap, sym, ◌∙◌}
use Rattle.std.proofs.lemmas.Result.{IfOk-weaker}
use Rattle.clap.specs.Walk.{rule_of}
use Rattle.command_lines.specs.Tables.{with_need}
use Rattle.command_lines.proofs.TableLemmas.{substituted}
use Rattle.command_lines.proofs.table.needed.Goals as goal

pub returns-in-Some : goal.returns-in-Some
returns-in-Some c =
    IfOk-weaker c.required_unless_present.result _ _ (λ r adds. substituted c.args.argument r c.in-Some.name adds
    ∙ ap (λ o. with_need o c.args.word.now.is_required (rule_of c.args.argument)) (sym c.in-Some.is)) c.required_unless_present.ensures
