use Rattle.std.specs.IoError.{error_kind}
use Rattle.cli_changes.proofs.intake.Intake.has_mail.Goals as goal

pub returns-in-Err : goal.returns-in-Err
returns-in-Err c = (error_kind c.in-Err.error, c.maildir_failure.ensures)
