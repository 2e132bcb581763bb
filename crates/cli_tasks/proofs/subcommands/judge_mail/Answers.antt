use Rattle.std.proofs.Common.{◌≡◌, false, None}
use Rattle.cli_changes.specs.Deliveries.{no_mail_in}
use Rattle.cli_tasks.proofs.CaptureLaws.{where_asked}
use Rattle.cli_tasks.proofs.subcommands.judge_mail.Goals as goal

pub returns : goal.returns
returns c =
    where_asked (c.args.is_as_is ≡ false) (no_mail_in c.args.message.now ≡ None) _ c.refuse_no_mail.result c.refuse_no_mail.ensures
