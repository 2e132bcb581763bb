use Rattle.std.proofs.Common.{◌≡◌, ◌-◌}
use Rattle.std.specs.Int.{w16}
use Rattle.filing_image.specs.Reading.{number_at, many_at}
use Rattle.filing_image.proofs.Loop.{with_front}
use Rattle.filing_image.proofs.reading.places_of.Given as goal

abbrev pub invariant-loop : goal.invariant-loop
invariant-loop l = with_front l.places.items (many_at (number_at w16) (l.count - l.counter) l.rest) ≡ many_at (number_at w16) l.count l.octets
