use Rattle.std.proofs.Common.{◌≡◌, ◌-◌}
use Rattle.filing_image.specs.Reading.{instruction_at, many_at}
use Rattle.filing_image.proofs.Loop.{with_front}
use Rattle.filing_image.proofs.reading.instructions_of.Given as goal

abbrev pub invariant-loop : goal.invariant-loop
invariant-loop l = with_front l.instructions.items (many_at instruction_at (l.count - l.counter) l.rest) ≡ many_at instruction_at l.count l.octets
