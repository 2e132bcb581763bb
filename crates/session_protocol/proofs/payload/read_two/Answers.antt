use Rattle.session_protocol.proofs.PayloadLemmas.{read_both}
use Rattle.session_protocol.proofs.payload.read_two.Goals as goal

pub returns-clause-octets : goal.returns-clause-octets
returns-clause-octets g c =
    read_both c.args.sizes c.args.limits c.in-Some.first c.in-Some-2.second _ _ _ (rw c.in-Some.is at c.in_ok-first.ensures.octets)
    (rw c.in-Some-2.is at c.in_ok-second.ensures.octets)
