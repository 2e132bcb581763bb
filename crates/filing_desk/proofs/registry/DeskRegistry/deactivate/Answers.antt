use Rattle.std.proofs.Common.{refl}
use Rattle.desk_commands.specs.Office.{deactivate, with_active}
use Rattle.desk_commands.specs.Pinning.{no_program}
use Rattle.filing_desk.proofs.OfficerLemmas.{set_by}
use Rattle.filing_desk.proofs.registry.DeskRegistry.deactivate.Goals as goal

pub returns : goal.returns
returns g c = set_by g.A.Records.keeper c.args.self.now _ (deactivate c.args.officer.now) (λ s.
    with_active s c.args.officer.now no_program) refl (record {
      store = refl;
      flights = refl;
      last = refl;
      open_paths =
          refl;
    }) (λ s. refl) c.deactivate.ensures (λ x stands. refl)
