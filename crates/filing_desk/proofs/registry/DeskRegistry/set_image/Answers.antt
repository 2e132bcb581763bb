use Rattle.std.proofs.Common.{refl}
use Rattle.desk_commands.specs.Limits.{greatest_image}
use Rattle.desk_commands.specs.Office.{set_image, with_active}
use Rattle.desk_commands.specs.Parts.{RefusesImage}
use Rattle.desk_commands.specs.Pinning.{image}
use Rattle.filing_desk.proofs.FaultLemmas.{lacking, refused_part}
use Rattle.filing_desk.proofs.OfficerLemmas.{not_set, set_by}
use Rattle.filing_desk.proofs.StepLemmas.{done_fault}
use Rattle.filing_desk.proofs.registry.DeskRegistry.set_image.Goals as goal

pub returns-in_err-program : goal.returns-in_err-program
returns-in_err-program g c = λ i is.
    let result = c.from_residual.ensures in
    refused_part g.A.Records.keeper c.args.self.now (set_image c.args.officer.now i) (RefusesImage i)
    greatest_image i c.in_err-program.field-0.0 _ (λ x n r. r) (λ x n l.
    l) (done_fault _ _ result.0 result.1) (c.in_err-program.ensures.refused i is)

pub returns-in_err-set_image : goal.returns-in_err-set_image
returns-in_err-set_image g c = λ i is.
    let result = c.from_residual-in_err-set_image.ensures in
    let refused = c.in_err-set_image.ensures in
    not_set g.A.Records.keeper c.args.self.now _ (set_image c.args.officer.now i) _ refl (record {
      store =
          refl;
      flights = refl;
      last = refl;
      open_paths = refl;
    }) refused.unchanged (λ x stands.
    lacking x.office (set_image c.args.officer.now i) greatest_image i c.in_err-set_image.field-0.0 _
    (done_fault _ _ result.0 result.1) refused.fault (c.in_ok-program.ensures.short i is) (λ n l. l))

pub returns : goal.returns
returns g c = λ i is.
    let set = c.in_ok-set_image.ensures in
    set_by g.A.Records.keeper c.args.self.now _ (set_image c.args.officer.now i) (λ s.
    with_active s c.args.officer.now (image c.in_ok-program.program)) refl (record {
      store = refl;
      flights = refl;
      last =
          refl;
      open_paths = refl;
    }) (λ s. refl) set.done (λ x stands.
    (c.in_ok-program.program, c.in_ok-program.ensures.good i is, refl))
