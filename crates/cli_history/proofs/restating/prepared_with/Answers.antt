use Rattle.std.proofs.Common.{ap, is_some, refl}
use Rattle.cli_history.proofs.restating.prepared_with.Goals as goal

pub returns-in_default : goal.returns-in_default
returns-in_default g c = record { unchanged = λ fresh. ap is_some c.in_default.is; noted_is = λ fresh. refl; replayed_is = λ fresh. refl }

pub returns-in-Ok : goal.returns-in-Ok
returns-in-Ok g c = record { unchanged = λ fresh. absurd cc; noted_is = λ fresh. absurd cc; replayed_is = λ fresh. absurd cc }
