use Rattle.std.proofs.Common.{ap, sym, ◌∙◌}
use Rattle.std.proofs.lemmas.Result.{IfOk-weaker}
use Rattle.clap.specs.Walk.{rule_of}
use Rattle.command_lines.specs.Tables.{with_conflict}
use Rattle.command_lines.proofs.TableLemmas.{excluded}
use Rattle.command_lines.proofs.table.excluding.Goals as goal

pub returns-in-Some : goal.returns-in-Some
returns-in-Some c =
    IfOk-weaker c.conflicts_with.result _ _ (λ r adds. excluded c.args.argument r c.in-Some.name adds
    ∙ ap (λ o. with_conflict o (rule_of c.args.argument)) (sym c.in-Some.is)) c.conflicts_with.ensures
