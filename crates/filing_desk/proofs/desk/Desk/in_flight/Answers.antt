use Rattle.filing_desk.proofs.FilingLemmas.{none_shown, shown}
use Rattle.filing_desk.proofs.desk.Desk.in_flight.Goals as goal

pub returns-in-Some : goal.returns-in-Some
returns-in-Some g c = λ s stands.
    rw (
      c.program.ensures,
      c.machine.ensures.value,
    ) (shown _ c.in-Some.flight.now (c.in-Some.ensures s.flights stands.flights)
    c.machine.ensures.stands)

pub returns-in-None : goal.returns-in-None
returns-in-None g c = λ s stands. none_shown _ (c.in-None.ensures s.flights stands.flights)
