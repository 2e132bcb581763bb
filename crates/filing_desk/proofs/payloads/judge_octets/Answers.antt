use Rattle.std.proofs.Common.{sym, subst}
use Rattle.desk_commands.specs.Limits.{greatest_image}
use Rattle.desk_commands.specs.Parts.{RefusesImage}
use Rattle.desk_commands.specs.declared.fault.DeskFault.{DeskFault}
use Rattle.filing_desk.specs.Judging.{IsFaultOf}
use Rattle.filing_desk.proofs.ImageLemmas.{unfit_fault}
use Rattle.filing_desk.proofs.payloads.judge_octets.Goals as goal

pub returns-clause-refused : goal.returns-clause-refused
returns-clause-refused c =
    let octets = c.args.image.now in
    let refused =
    unfit_fault octets c.in_ok-image.image c.requires c.in_ok-image.ensures.fits c.in_ok-image.ensures.found
    c.in-Err.fault c.in-Err.ensures.refused in
    subst (λ (f : DeskFault). IsFaultOf (RefusesImage octets) greatest_image octets f) (sym c.from.ensures) refused
