use Rattle.std.proofs.Common.{◌++◌, refl, subst}
use Rattle.std.proofs.lemmas.Result.{on_ok_weaker}
use Rattle.std.specs.Option.{option_copied}
use Rattle.cli_texts.specs.Rows.{last_fields}
use Rattle.cli_readings.specs.Exporting.{HandsOver, IsListed, letter_of, met_fields, more_over, noted_for, written_of}
use Rattle.cli_readings.proofs.exporting.list_met.Goals as goal

pub returns : goal.returns
returns g c =
    let made = g.D.Destination.made in
    let volume = c.args.volume in
    let seals = c.args.seals.now in
    let entry = c.args.entry.now in
    let noted = noted_for volume (written_of c.args.last.now) entry.number in
    let written = c.written_in-written.ensures in
    on_ok_weaker c.list_record.result (λ listed. (
      noted ++ listed.0,
      record {
        lists = listed.0;
        are = subst (λ o. IsListed volume entry (met_fields seals o entry.message) (letter_of o) listed.0) written
            (subst (λ f. IsListed volume entry f (letter_of (option_copied c.written_in-written.result)) listed.0) c.exported.ensures
            (subst (λ l. IsListed volume entry (last_fields c.exported.result) l listed.0) c.letter_of_written-letter.ensures listed.1));
        parts_are = refl;
      },
      more_over made c.args.out.now c.note_unless_written.new.out c.list_record.new.out noted listed.0
          (subst (λ o. HandsOver made c.args.out.now (noted_for volume o entry.number) c.note_unless_written.new.out) written
          c.in_ok-note_unless_written.ensures) listed.2,
    )) c.list_record.ensures
