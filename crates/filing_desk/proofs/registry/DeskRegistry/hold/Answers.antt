use Rattle.std.proofs.Common.{refl}
use Rattle.filing_desk.proofs.RecordCommands.{holds, number_refused, record_done, record_refused}
use Rattle.filing_desk.proofs.StepLemmas.{done_fault}
use Rattle.filing_desk.proofs.registry.DeskRegistry.hold.Goals as goal

pub returns-in_err-number : goal.returns-in_err-number
returns-in_err-number g c =
    let result = c.from_residual.ensures in
    number_refused g.A.Records.keeper _ _ (holds c.args.name.now) g.met.A.Records.is_archive
    c.args.self.now c.args.number c.in_err-number.field-0.0 _ c.in_err-number.ensures
    (done_fault _ _ result.0 result.1)

pub returns-in_err-hold : goal.returns-in_err-hold
returns-in_err-hold g c =
    let result = c.from_residual-in_err-hold.ensures in
    record_refused g.A.Records.keeper _ _ (holds c.args.name.now) c.args.self.now _
    c.in_ok-number.number c.args.number c.in_err-hold.field-0.0 _ c.in_ok-number.ensures (record {
      officers = refl;
      flights = refl;
      last = refl;
    }) refl c.in_err-hold.ensures (done_fault _ _ result.0 result.1)

pub returns : goal.returns
returns g c =
    record_done g.A.Records.keeper _ _ (holds c.args.name.now) c.args.self.now _ c.in_ok-number.number
    c.args.number c.in_ok-number.ensures (record { officers = refl; flights = refl; last = refl }) refl
    c.in_ok-hold.ensures
