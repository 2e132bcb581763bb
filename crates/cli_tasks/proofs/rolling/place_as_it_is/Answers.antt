use Rattle.std.proofs.Common.{ap, Some}
use Rattle.cli_tasks.specs.Places.{place_with}
use Rattle.cli_tasks.proofs.rolling.place_as_it_is.Goals as goal

pub returns : goal.returns
returns c =
    let measured = c.in_ok-measured.measured in
    (measured.0, measured.1, ap (place_with (Some c.args.volume)) c.as_it_is.ensures.space)
