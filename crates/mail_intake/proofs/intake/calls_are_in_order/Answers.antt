use Rattle.mail_intake.proofs.OrderLaws.{in_order}
use Rattle.mail_intake.proofs.intake.calls_are_in_order.Goals as goal

pub returns : goal.returns
returns c = in_order
