use Rattle.std.proofs.Common.{refl}
use Rattle.std.proofs.lemmas.Result.{on_ok_weaker}
use Rattle.record_reads.specs.Events.{event_of}
use Rattle.cli_history.proofs.CertificateLaws.{one_certified}
use Rattle.cli_history.proofs.certificates.PrintedCertificates.print_row.Goals as goal

-- the judge alone is another one before the certificate is printed, of whom it says nothing
pub returns-clause-certified : goal.returns-clause-certified
returns-clause-certified g c =
    let was = c.args.self.now in
    on_ok_weaker c.print_one.result (λ certifies.
    one_certified g.K.Sink.written was (record was { watch = c.look_at.new.self }) c.print_one.new.self c.args.sink.now c.print_one.new.sink
    (event_of c.args.row.now) refl refl refl certifies c.in_ok-look_at.ensures.watches) c.print_one.ensures.certified
