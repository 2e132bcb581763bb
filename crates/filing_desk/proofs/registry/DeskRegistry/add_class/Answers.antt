use Rattle.std.proofs.Common.{refl}
use Rattle.desk_commands.specs.Office.{add_class}
use Rattle.record_archive.specs.Archive as archives
use Rattle.filing_desk.proofs.ClassLemmas.{added_keeps}
use Rattle.filing_desk.proofs.StepLemmas.{done_by, done_fault, refused_by_archive}
use Rattle.filing_desk.proofs.registry.DeskRegistry.add_class.Goals as goal

pub returns-in_err-add_class : goal.returns-in_err-add_class
returns-in_err-add_class g c =
    let result = c.from_residual.ensures in
    refused_by_archive g.A.Records.keeper c.args.self.now _ (add_class c.args.path.now) (λ a.
    archives.add_class a c.args.path.now) c.in_err-add_class.field-0.0 _ (record {
      for_archive = refl;
      settles =
          λ s new h. h;
      refuses = λ s n h. h;
      gives_up = λ s n h. h;
      keeps = λ a b made q.
          added_keeps a b c.args.path.now q made;
    }) (record { officers = refl; flights = refl; last = refl }) refl
    c.in_err-add_class.ensures (done_fault _ _ result.0 result.1)

pub returns : goal.returns
returns g c =
    done_by g.A.Records.keeper c.args.self.now _ (add_class c.args.path.now) (λ a.
    archives.add_class a c.args.path.now) (record {
      for_archive = refl;
      settles = λ s new h. h;
      refuses = λ s n h.
          h;
      gives_up = λ s n h. h;
      keeps = λ a b made q. added_keeps a b c.args.path.now q made;
    }) (record {
      officers =
          refl;
      flights = refl;
      last = refl;
    }) (λ a b made there. tt) c.in_ok-add_class.ensures
