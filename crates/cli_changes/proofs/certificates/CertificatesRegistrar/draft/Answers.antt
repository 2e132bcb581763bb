use Rattle.std.proofs.Common.{◌≡◌, ℕ, Bool, true, false, not, Option, Some, None, refl, sym, true≢false}
use Rattle.std.specs.Prelude.{is_none, is_some}
use Rattle.cli_changes.proofs.certificates.CertificatesRegistrar.draft.Goals as goal

none_by : (o : Option ℕ) (b : Bool) → is_some o ≡ not b → b ≡ is_none o
none_by None true e = refl
none_by None false e = absurd (true≢false (sym e))
none_by (Some n) true e = absurd (true≢false e)
none_by (Some n) false e = refl

pub returns : goal.returns
returns g c = (
  (c.args.destroyed.now, refl, c.in_ok-certificate_of.ensures),
  none_by c.args.destroyed.now.kept_by c.is_none.result c.is_none.ensures,
)
