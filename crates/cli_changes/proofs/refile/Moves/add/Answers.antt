use Rattle.std.proofs.Common.{refl}
use Rattle.cli_changes.proofs.refile.Moves.add.Goals as goal

pub returns : goal.returns
returns c = record { to = refl; typed = refl; numbers = c.in_ok-push.ensures.items; refused = refl }
