use Rattle.std.proofs.Common.{refl}
use Rattle.filing_desk.proofs.RecordCommands.{destroys, number_refused, record_done, record_refused}
use Rattle.filing_desk.proofs.StepLemmas.{done_fault}
use Rattle.filing_desk.proofs.registry.DeskRegistry.destroy.Goals as goal

pub returns-in_err-number : goal.returns-in_err-number
returns-in_err-number g c = λ n is within.
    let result = c.from_residual.ensures in
    number_refused g.A.Records.keeper _ _ (destroys n) g.met.A.Records.is_archive c.args.self.now
    c.args.number c.in_err-number.field-0.0 _ c.in_err-number.ensures (done_fault _ _ result.0 result.1)

pub returns-in_err-destroy : goal.returns-in_err-destroy
returns-in_err-destroy g c = λ n is within.
    let result = c.from_residual-in_err-destroy.ensures in
    record_refused g.A.Records.keeper _ _ (destroys n) c.args.self.now _ c.in_ok-number.number
    c.args.number c.in_err-destroy.field-0.0 _ c.in_ok-number.ensures (record {
      officers = refl;
      flights = refl;
      last = refl;
    }) refl (rw is at c.in_err-destroy.ensures) (done_fault _ _ result.0 result.1)

pub returns : goal.returns
returns g c = λ n is within.
    record_done g.A.Records.keeper _ _ (destroys n) c.args.self.now _ c.in_ok-number.number
    c.args.number c.in_ok-number.ensures (record { officers = refl; flights = refl; last = refl }) refl
    (rw is at c.in_ok-destroy.ensures)
