use Rattle.std.proofs.Common.{◌∙◌, [], Some, ap, refl, subst, sym}
use Rattle.cli_readings.specs.Exporting.{IsMet, file_parts, nothing_over}
use Rattle.cli_readings.specs.Shows.{is_unaltered}
use Rattle.cli_readings.specs.declared.exporting.Met.TheVariants as met
use Rattle.cli_readings.proofs.exporting.meet.Goals as goal

pub returns-then-not-is_unaltered : goal.returns-then-not-is_unaltered
returns-then-not-is_unaltered g c =
    let number = c.args.number in
    let octets = c.args.octets.now in
    let other = ap is_unaltered (sym c.in_ok-fidelity.ensures) ∙ sym c.is_unaltered.ensures ∙ c.if-not-is_unaltered.true in (
      [],
      subst (λ b. IsMet c.args.volume b number octets [] (Some (met.Altered number))) (sym other) (refl, refl),
      nothing_over g.D.Destination.made c.args.out.now,
    )

pub returns : goal.returns
returns g c =
    let number = c.args.number in
    let octets = c.args.octets.now in
    let files = file_parts c.args.volume number octets in
    let written = c.in_ok-written.written in
    let same = ap is_unaltered (sym c.in_ok-fidelity.ensures) ∙ sym c.is_unaltered.ensures ∙ c.if-not-is_unaltered.false in (
      files,
      subst (λ b. IsMet c.args.volume b number octets files (Some (met.Written written))) (sym same)
          (record { told = written; told_is = c.in_ok-written.ensures.told; last_is = refl; parts_are = refl }),
      c.in_ok-written.ensures.handed,
    )
