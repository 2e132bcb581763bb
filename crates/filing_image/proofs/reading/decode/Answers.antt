use Rattle.std.proofs.Common.{◌≡◌, subst, sym, arith}
use Rattle.std.proofs.lemmas.Result.{IfOk-weaker, err_from_is_err_and}
use Rattle.filing_image.specs.declared.fault.FormFault.{FormFault}
use Rattle.filing_image.specs.declared.fault.FormFault.TheVariants.{BadForm}
use Rattle.filing_image.specs.Spelling.{IsShort, IsOfVersion}
use Rattle.filing_image.specs.Reading.{all_of}
use Rattle.filing_image.proofs.Loop.{Fails}
use Rattle.filing_image.proofs.OneProgram.{is_found, is_only, is_that, unread}
use Rattle.filing_image.proofs.reading.decode.Goals as goal

pub returns-in_err-written-clause-refused : goal.returns-in_err-written-clause-refused
returns-in_err-written-clause-refused c = λ h p fits e.
    let q = err_from_is_err_and c.from_residual.result c.from_residual.ensures.1 in
    let bad : c.in_err-written.field-0.0 ≡ BadForm = cc (q.1, q.2, h) in
    unread c.args.octets.now p (subst (λ (f : FormFault). Fails f (all_of c.args.octets.now)) bad c.in_err-written.ensures) fits e

pub returns-clause-found : goal.returns-clause-found
returns-clause-found c =
    IfOk-weaker c.of_instructions.result _ _ (λ i h. is_found _ _ i (λ k. omega (arith, c.type_inv.octets k)) c.in_ok-written.ensures h)
    c.of_instructions.ensures.made

pub returns-clause-only : goal.returns-clause-only
returns-clause-only c =
    IfOk-weaker c.of_instructions.result _ _ (λ i h p fits e. is_only _ _ i p c.in_ok-written.ensures h fits e) c.of_instructions.ensures.made

pub returns-clause-refused : goal.returns-clause-refused
returns-clause-refused c = λ h p fits e.
    let same = is_that _ _ p c.in_ok-written.ensures fits e in
    c.of_instructions.ensures.refused h (subst IsShort (sym same) fits.octets.short) (record {
      program = p;
      is = sym same;
      operations = subst IsOfVersion (sym same) fits.operations;
    })
