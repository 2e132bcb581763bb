use Rattle.std.proofs.Common.{List, ℕ, subst, sym}
use Rattle.cli_history.specs.declared.seals.Seals.{Seals}
use Rattle.cli_readings.specs.Twice.{GathersAll}
use Rattle.cli_readings.specs.VolumeTwice.{Reading}
use Rattle.cli_readings.proofs.VolumeTwiceLaws.{volume_gathered}
use Rattle.cli_readings.proofs.volume_twice.TwiceGroups.gather.Goals as goal

pub returns-clause-gathered : goal.returns-clause-gathered
returns-clause-gathered g c = λ clean (read : Reading) stands seals (vs : List ℕ) had.
    let v = c.args.volume in
    let after = c.in_ok-groups.groups in
    volume_gathered read vs v c.args.self (record { groups = after })
    (subst (λ (s : Seals). GathersAll v (read v).0 s c.args.self.groups after) (sym seals)
    (c.in_ok-groups.ensures.gathered clean (read v).0 stands)) had
