use Rattle.std.proofs.Common.{inl}
use Rattle.cli_tasks.proofs.rolling.place_next.Goals as goal

pub returns : goal.returns
returns g c = record { is_in = c.in_ok-capturing.ensures; place_is = inl c.in_ok-place.ensures }
