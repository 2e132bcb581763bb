use Rattle.std.proofs.Common.{◌≡◌, ◌∙◌, Some, None, refl, rules, subst, sym, arith}
use Rattle.std.proofs.lemmas.Bool.Decides.{nat_tests}
use Rattle.record_history.specs.Reading.{Fails}
use Rattle.record_history.specs.Views.{event_view}
use Rattle.record_history.specs.declared.faults.LineFault.TheVariants.{NotALine}
use Rattle.cli_history.proofs.TellingLemmas.{not_read, read_as, read_elsewhere, read_here}
use Rattle.cli_history.proofs.seals.deed_of.Goals as goal

pub returns-in-Err-NotALine : goal.returns-in-Err-NotALine
returns-in-Err-NotALine c =
    let fault : c.in-Err-NotALine.field-0 ≡ NotALine = search rules in (
      None,
      not_read c.args.row.now (λ m f low readable is.
          subst (λ k. Fails k (read_as m f)) fault (c.in-Err-NotALine.ensures.only m f low readable (c.as_slice.ensures.value ∙ is))) (omega arith),
      refl,
    )

pub returns-then-number-own : goal.returns-then-number-own
returns-then-number-own c = (
  None,
  read_elsewhere c.args.row.now c.in-Ok.read.0 (event_view c.in-Ok.read.1)
      (λ m f low readable is. c.in-Ok.ensures.only m f low readable (c.as_slice.ensures.value ∙ is))
      (λ same. grind (arith, nat_tests, same, c.if-number-own.true)) (omega arith),
  refl,
)

pub returns : goal.returns
returns c = (
  Some (event_view c.in-Ok.read.1),
  read_here c.args.row.now c.in-Ok.read.0 (event_view c.in-Ok.read.1) (sym c.as_slice.ensures.value ∙ c.in-Ok.ensures.found)
      c.in-Ok.ensures.readable (grind (arith, nat_tests, c.if-number-own.false)),
  refl,
)
