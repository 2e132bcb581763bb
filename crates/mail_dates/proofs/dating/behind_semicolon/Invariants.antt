use Rattle.std.proofs.Common.{◌≡◌, length}
use Rattle.std.specs.Prelude.{option_map}
use Rattle.std.specs.Option.{option_or}
use Rattle.mail_dates.specs.Dating.{behind_semicolon}
use Rattle.mail_dates.proofs.dating.behind_semicolon.Given as goal

abbrev pub invariant-loop-rest : goal.invariant-loop-rest
invariant-loop-rest l = option_or (behind_semicolon l.rest) (option_map (λ t. t.now) l.found) ≡ behind_semicolon l.text

abbrev pub decreases-loop-rest : goal.decreases-loop-rest
decreases-loop-rest l = length l.rest
