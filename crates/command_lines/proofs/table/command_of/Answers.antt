use Rattle.std.proofs.Common.{◌≡◌, ◌∙◌, ap, true, rules}
use Rattle.std.proofs.lemmas.Result.{IfOk-weaker}
use Rattle.clap.specs.Simple.{app_of, on_top}
use Rattle.command_lines.specs.Tables.{described_in}
use Rattle.command_lines.proofs.TableLemmas.{subcommands_app}
use Rattle.command_lines.proofs.table.command_of.Goals as goal

pub returns : goal.returns
returns c plain =
    let program = c.args.program.now in
    let required : app_of c.subcommand_required.result
    ≡ on_top (λ s. record s { subcommand_required = true }) (app_of c.in_ok-bare_command.field-0) = search rules in
    IfOk-weaker c.subcommands.result _ _ (λ r adds.
    subcommands_app program.name.now c.subcommand_required.result r c.in_ok-subcommands.subcommands.items program.shared.now
    (described_in program) (required ∙ ap (on_top (λ s. record s { subcommand_required = true })) c.in_ok-bare_command.ensures) adds
    (c.in_ok-subcommands.ensures plain)) c.subcommands.ensures
