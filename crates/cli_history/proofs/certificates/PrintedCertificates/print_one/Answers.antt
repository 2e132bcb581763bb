use Rattle.std.proofs.Common.{◌∙◌, Some, None, ap, option_map, refl, subst, sym}
use Rattle.std.specs.Prelude.{is_some}
use Rattle.std.proofs.lemmas.Result.{on_ok_weaker}
use Rattle.record_history.specs.Views.{event_view}
use Rattle.record_reads.specs.Events.{event_of}
use Rattle.cli_console.specs.Sequences.{only}
use Rattle.cli_console.specs.Sinks.{Writes}
use Rattle.cli_history.specs.Certified.{IsCertificateOf}
use Rattle.cli_history.specs.Tellings.{TellsRow}
use Rattle.cli_history.proofs.CertificateLaws.{row_certified, row_passed}
use Rattle.cli_history.proofs.certificates.PrintedCertificates.print_one.Goals as goal

-- the row tells no event
pub returns-in_default-clause-certified : goal.returns-in_default-clause-certified
returns-in_default-clause-certified g c =
    let was = c.args.self.now in
    row_passed g.K.Sink.written was was c.args.sink.now (event_of c.args.row.now) None
    (subst (λ o. TellsRow (event_of c.args.row.now) (option_map event_view o)) c.in_default.is c.in_ok-event.ensures.tells) refl refl refl refl refl

-- no certificate is asked of the one that it tells
pub returns-in_default-destroyed_in-clause-certified : goal.returns-in_default-destroyed_in-clause-certified
returns-in_default-destroyed_in-clause-certified g c =
    let was = c.args.self.now in
    let row = event_of c.args.row.now in
    let event = event_view c.in-Some.event in
    row_passed g.K.Sink.written was (record was { titles = c.take.new.self }) c.args.sink.now row (Some event)
    (subst (λ o. TellsRow row (option_map event_view o)) c.in-Some.is c.in_ok-event.ensures.tells)
    (ap (λ n. only (is_some n) (row, event)) (sym c.destroyed_in.ensures ∙ c.in_default-destroyed_in.is)) refl refl refl refl

-- one is asked for, and written
pub returns-in-Some-2-clause-certified : goal.returns-in-Some-2-clause-certified
returns-in-Some-2-clause-certified g c =
    let was = c.args.self.now in
    let is = record was { titles = c.take.new.self; missing = c.meet.new.self; told = c.insert.new.self } in
    let row = event_of c.args.row.now in
    let event = event_view c.in-Some.event in
    let text = c.in-Some-2.text in
    let tells = subst (λ o. TellsRow row (option_map event_view o)) c.in-Some.is c.in_ok-event.ensures.tells in
    let is_certificate = subst (λ o. IsCertificateOf was.volume row event o) c.in-Some-2.is c.in_ok-text.ensures in
    on_ok_weaker c.write.result (λ writes.
    row_certified g.K.Sink.written was is c.args.sink.now c.write.new.self row event c.in-Some-destroyed_in.number text tells
    (sym c.destroyed_in.ensures ∙ c.in-Some-destroyed_in.is) is_certificate
    (subst (λ t. Writes g.K.Sink.written c.args.sink.now c.write.new.self t) (c.as_bytes.ensures.value ∙ c.as_str.ensures.exact) writes) refl
    refl refl c.in_ok-meet.ensures) c.write.ensures
