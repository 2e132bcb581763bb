use Rattle.std.proofs.Common.{◌≡◌, ◌-◌, map}
use Rattle.filing_image.specs.Reading.{text_at, many_at}
use Rattle.filing_image.proofs.Loop.{with_front}
use Rattle.filing_image.proofs.reading.texts_of.Given as goal

abbrev pub invariant-loop : goal.invariant-loop
invariant-loop l = with_front (map (λ t. t.items) l.texts.items) (many_at text_at (l.count - l.counter) l.rest) ≡ many_at text_at l.count l.octets
