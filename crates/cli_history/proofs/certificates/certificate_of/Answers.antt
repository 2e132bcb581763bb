use Rattle.std.proofs.Common.{ap, refl}
use Rattle.record_history.specs.Views.{deed_view}
use Rattle.record_history.specs.declared.events.Deed.{Deed}
use Rattle.cli_history.specs.Certified.{destroyed_by}
use Rattle.cli_history.proofs.CertificateLaws.{none_destroyed}
use Rattle.cli_history.proofs.certificates.certificate_of.Goals as goal

pub returns-in_default : goal.returns-in_default
returns-in_default c = none_destroyed c.args.event.now.deed c.in_default.not-Destroyed

pub returns : goal.returns
returns c =
    let is = c.in_ok-told_certificate.ensures in (
      _,
      record {
        volume_is = refl;
        number = ap (λ (d : Deed). destroyed_by (deed_view d)) c.in-Destroyed.is;
        event = refl;
        moment = refl;
        who = refl;
        reason = refl;
        altered = c.is_altered.ensures;
      },
      is.0,
      is.1,
      is.2,
    )
