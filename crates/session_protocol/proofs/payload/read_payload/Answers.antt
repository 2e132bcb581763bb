use Rattle.std.proofs.Common.{arith}
use Rattle.desk_commands.specs.declared.payload.Payload.TheVariants.{NoMemory, TooLong}
use Rattle.session_protocol.proofs.PayloadLemmas.{read_dropped}
use Rattle.session_protocol.proofs.payload.read_payload.Goals as goal

pub returns-then-size-limit-clause-octets : goal.returns-then-size-limit-clause-octets
returns-then-size-limit-clause-octets g c =
    rw c.then_some.ensures
    (read_dropped c.in_ok-skip.field-0 TooLong c.args.size c.args.limit _ _ (λ octets size. omega (arith, size, c.if-size-limit.true)) tt
    (λ t e. c.in_ok-skip.ensures.whole t (cc)) (λ t e. c.in_ok-skip.ensures.cut t (cc)))

pub returns-in_default-clause-octets : goal.returns-in_default-clause-octets
returns-in_default-clause-octets g c =
    rw c.then_some-in_default.ensures
    (read_dropped c.in_ok-skip-2.field-0 NoMemory c.args.size c.args.limit _ _ (λ octets size. omega (arith, size, c.if-size-limit.false)) tt
    (λ t e. c.in_ok-skip-2.ensures.whole t (cc)) (λ t e. c.in_ok-skip-2.ensures.cut t (cc)))
