use Rattle.std.proofs.Common.{ap, sym}
use Rattle.std.specs.Option.{option_copied}
use Rattle.cli_readings.specs.Exporting.{letter_of}
use Rattle.cli_readings.proofs.exporting.letter_of_written.Goals as goal

pub returns-in-Some : goal.returns-in-Some
returns-in-Some c = ap (λ o. letter_of (option_copied o)) (sym c.in-Some.is)

pub returns-in-None : goal.returns-in-None
returns-in-None c = ap (λ o. letter_of (option_copied o)) (sym c.in-None.is)
