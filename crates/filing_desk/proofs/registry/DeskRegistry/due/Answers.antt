use Rattle.std.proofs.Common.{refl}
use Rattle.jiff.specs.Words.{epoch_day}
use Rattle.filing_desk.proofs.DueLemmas.{due_given_up, due_told}
use Rattle.filing_desk.proofs.FaultLemmas.{lines_fault}
use Rattle.filing_desk.proofs.registry.DeskRegistry.due.Goals as goal

pub returns-in_err-lines : goal.returns-in_err-lines
returns-in_err-lines g c = λ n is within.
    let result = c.from_residual.ensures in
    due_given_up g.A.Records.keeper c.args.self.now _ n (epoch_day c.args.day)
    c.in_err-lines.field-0.0 _ (record { officers = refl; flights = refl; last = refl }) refl c.in_err-lines.ensures
    (lines_fault _ _ result.0 result.1)

pub returns : goal.returns
returns g c = λ n is within.
    due_told g.A.Records.keeper c.args.self.now _ n c.in_ok-lines.lines (record {
      officers = refl;
      flights = refl;
      last = refl;
    }) refl (rw is at c.in_ok-lines.ensures)
