use Rattle.std.proofs.Common.{ap, Err}
use Rattle.record_archive.specs.Archive.{Archive}
use Rattle.record_copy.proofs.CauseLemmas.{handed_on}
use Rattle.record_copy.proofs.copy.copy_archive.Goals as goal

pub returns-in_err-copy_rows-clause-lost : goal.returns-in_err-copy_rows-clause-lost
returns-in_err-copy_rows-clause-lost g c clean is = λ (a : Archive) archive s.
    let e = handed_on c.from_residual.result c.in_err-copy_rows.field-0.0 c.from_residual.ensures.1 is in
    c.in_err-copy_rows.ensures.lost clean (ap Err e) a archive s
