use Rattle.std.proofs.Common.{Some, ◌++◌, refl, subst}
use Rattle.record_archive.specs.Archive.{Archive}
use Rattle.cli_readings.specs.Exports.{are_captured}
use Rattle.cli_readings.specs.Exporting.{IsMet, more_over}
use Rattle.cli_readings.proofs.exporting.Exporting.export_new.Goals as goal

pub returns-clause-exported : goal.returns-clause-exported
returns-clause-exported g c = λ clean (a : Archive) s.
    let made = g.D.Destination.made in
    let number = c.args.entry.now.message in
    let seals = c.args.self.now.seals in
    let volume = c.args.self.now.volume in
    let met = c.in_ok-met.ensures in
    let listed = c.in_ok-list_met.ensures in (
      met.0 ++ listed.0,
      record {
        octets = c.in_ok-octets.octets.items;
        of_it = c.in_ok-octets.ensures.told clean a s;
        files = met.0;
        met_as = subst (λ os. IsMet volume (are_captured seals number os) number os met.0 (Some c.in_ok-met.met)) c.as_slice.ensures.value met.1;
        rest = listed.0;
        listed_as = listed.1;
        parts_are = refl;
      },
      more_over made c.args.self.now.out c.meet.new.out c.list_met.new.out met.0 listed.0 met.2 listed.2,
    )
