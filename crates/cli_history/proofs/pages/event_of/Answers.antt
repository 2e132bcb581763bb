use Rattle.std.proofs.Common.{◌∙◌, sym, arith}
use Rattle.std.proofs.lemmas.Bool.Decides.{nat_tests}
use Rattle.record_history.specs.Views.{event_view}
use Rattle.cli_history.proofs.TellingLemmas.{not_read_or_no_memory, read_elsewhere, read_here}
use Rattle.cli_history.proofs.pages.event_of.Goals as goal

pub returns-in-Err-clause-tells : goal.returns-in-Err-clause-tells
returns-in-Err-clause-tells c = λ bad.
    not_read_or_no_memory c.args.row.now c.in-Err.fault c.line_failure.result
    (λ m f low readable is. c.in-Err.ensures.only m f low readable (c.as_slice.ensures.value ∙ is)) c.line_failure.ensures (omega arith) bad

pub returns-then-number-own-clause-tells : goal.returns-then-number-own-clause-tells
returns-then-number-own-clause-tells c = λ bad.
    read_elsewhere c.args.row.now c.in-Ok.read.0 (event_view c.in-Ok.read.1)
    (λ m f low readable is. c.in-Ok.ensures.only m f low readable (c.as_slice.ensures.value ∙ is))
    (λ same. grind (arith, nat_tests, same, c.if-number-own.true)) (omega arith)

pub returns-clause-tells : goal.returns-clause-tells
returns-clause-tells c =
    read_here c.args.row.now c.in-Ok.read.0 (event_view c.in-Ok.read.1) (sym c.as_slice.ensures.value ∙ c.in-Ok.ensures.found)
    c.in-Ok.ensures.readable (grind (arith, nat_tests, c.if-number-own.false))
