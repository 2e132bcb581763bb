use Rattle.std.proofs.Common.{◌≡◌, length}
use Rattle.mail_head.specs.Fields.{fields_of}
use Rattle.mail_dates.specs.Dating.{body_called}
use Rattle.mail_dates.proofs.dating.body_called.Given as goal

abbrev pub invariant-loop-found : goal.invariant-loop-found
invariant-loop-found l = body_called l.name (fields_of l.rest) ≡ body_called l.name (fields_of l.message)

abbrev pub decreases-loop-found : goal.decreases-loop-found
decreases-loop-found l = length l.rest
