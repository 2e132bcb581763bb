use Rattle.std.proofs.Common.{◌≡◌, ℕ, List, None, subst}
use Rattle.std.specs.Prelude.{IsSome, MatchResult}
use Rattle.cli_console.specs.Failures.{IsToldAs}
use Rattle.cli_console.specs.declared.failure.Status.TheVariants.{BadData}
use Rattle.mail_boxes.specs.NoMail.{no_mail}
use Rattle.cli_changes.proofs.no_mail.refuse_no_mail.Goals as goal

pub returns-in-Whole : goal.returns-in-Whole
returns-in-Whole c =
    rw c.in-Whole.is
    (subst (λ (o : List ℕ). MatchResult c.refuse_octets.result (λ _. no_mail o ≡ None) (λ failure. IsSome (no_mail o) × IsToldAs BadData failure))
    c.as_slice.ensures.value c.refuse_octets.ensures)
