use Rattle.session_protocol.proofs.ReadingAhead.{took, filled, some_taken, ended}
use Rattle.session_protocol.proofs.input.Input.read_on.Goals as goal

pub returns-then-not-is_empty-clause-octets : goal.returns-then-not-is_empty-clause-octets
returns-then-not-is_empty-clause-octets g c = (
  took _ _ _ _ _ c.take.ensures.taken c.take.ensures.rest,
  λ z pos. absurd (some_taken _ _ _ _ c.is_empty.ensures c.if-not-is_empty.true c.take.ensures.count c.requires z),
)

pub returns-clause-octets : goal.returns-clause-octets
returns-clause-octets g c = (
  filled _ _ _ _ _ _ _ (c.is_empty.ensures.0 c.if-not-is_empty.false) c.in_default.ensures.bytes c.take-2.ensures.taken c.take-2.ensures.rest,
  λ z pos. ended _ _ _ _ _ c.in_default.ensures.end c.take-2.ensures.rest c.take-2.ensures.count c.requires z,
)
