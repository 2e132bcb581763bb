use Rattle.std.proofs.Common.{refl, subst, sym}
use Rattle.std.specs.Prelude.{IsSome}
use Rattle.cli_changes.proofs.no_mail.refuse_octets.Goals as goal

pub returns-in-Err : goal.returns-in-Err
returns-in-Err c = (subst (λ o. IsSome o) (sym c.in-Err.ensures) refl, c.told.ensures)
