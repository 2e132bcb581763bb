use Rattle.std.proofs.Common.{List, ℕ, ◌++◌, ◌∙◌, ap}
use Rattle.cli_readings.proofs.volume_twice.KeptOctetsSink.write.Goals as goal

pub returns : goal.returns
returns c = λ (done : List ℕ) had. c.in_ok-extend_from_slice.ensures.items ∙ ap (λ t. t ++ c.args.octets.now) had
