use Rattle.std.proofs.Common.{subst, sym}
use Rattle.std.proofs.lemmas.Result.{on_ok_weaker}
use Rattle.std.specs.Option.{option_copied}
use Rattle.cli_readings.specs.Exporting.{HandsOver, noted_for, nothing_over}
use Rattle.cli_readings.proofs.exporting.note_unless_written.Goals as goal

pub returns-in-Some : goal.returns-in-Some
returns-in-Some g c =
    let made = g.D.Destination.made in
    subst (λ o. HandsOver made c.args.out.now (noted_for c.args.volume (option_copied o) c.args.number) c.args.out.now) (sym c.in-Some.is)
    (nothing_over made c.args.out.now)

pub returns-in-None : goal.returns-in-None
returns-in-None g c =
    let made = g.D.Destination.made in
    on_ok_weaker c.note_altered.result (λ over.
    subst (λ o. HandsOver made c.args.out.now (noted_for c.args.volume (option_copied o) c.args.number) c.note_altered.new.self) (sym c.in-None.is)
    over)
    c.note_altered.ensures
