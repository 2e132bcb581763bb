use Rattle.std.proofs.Common.{◌==◌, ◌∙◌, [], ap, not, true, refl, sym, subst}
use Rattle.jiff.specs.Words.{epoch_day}
use Rattle.record_archive.specs.Archive.{Archive}
use Rattle.record_ledger.specs.Ledgers.{KeptFor, kept_archive}
use Rattle.cli_changes.specs.Destructions.{DisposesUnaltered}
use Rattle.cli_changes.proofs.RunDisposals.{approved_any, approved_disposed, failed, none_unaltered}
use Rattle.cli_changes.proofs.dispose.destroy_asked.Goals as goal

pub returns-in_err-runs-clause-these : goal.returns-in_err-runs-clause-these
returns-in_err-runs-clause-these g c = (
  [],
  refl,
  λ clean (a : Archive) s.
      let seals = c.args.certificates.now.seals.now in
      let day = epoch_day c.args.day in
      subst (λ d. DisposesUnaltered seals c.args.damage (KeptFor g.S.Store c.approved_runs.new.archive.kept) day c.args.numbers.now d [] a)
      (sym (failed c.from_residual.result c.from_residual.ensures.0))
      (none_unaltered seals c.args.damage (KeptFor g.S.Store c.approved_runs.new.archive.kept) day c.args.numbers.now a
      (c.approved_runs.ensures.reads.stands a s)),
)

pub returns-in_err-destroy_runs-clause-these : goal.returns-in_err-destroy_runs-clause-these
returns-in_err-destroy_runs-clause-these g c =
    let these = c.in_err-destroy_runs.ensures.these in (
      these.0,
      these.1,
      λ clean (a : Archive) s.
          let seals = c.args.certificates.now.seals.now in
          let day = epoch_day c.args.day in
          subst (λ d. DisposesUnaltered seals c.args.damage (KeptFor g.S.Store c.destroy_runs.new.archive.kept) day c.args.numbers.now d these.0 a)
          (sym (failed c.from_residual-in_err-destroy_runs.result c.from_residual-in_err-destroy_runs.ensures.0))
          (approved_disposed seals c.args.damage (KeptFor g.S.Store c.destroy_runs.new.archive.kept) day c.args.numbers.now
          c.as_slice.result.now c.in_ok-runs.runs.items _ these.0 a c.as_slice.ensures.value
          (kept_archive g.S.Store c.args.archive.now.kept a s) c.in_ok-runs.ensures.filled
          (c.in_ok-runs.ensures.these (c.destroy_runs.ensures.falls clean) a s)
          (these.2 clean a (c.approved_runs.ensures.reads.stands a s))),
    )

pub returns-clause-these : goal.returns-clause-these
returns-clause-these g c =
    let these = c.in_ok-destroy_runs.ensures.these in (
      these.0,
      these.1,
      λ clean (a : Archive) s.
          approved_disposed c.args.certificates.now.seals.now c.args.damage (KeptFor g.S.Store c.destroy_runs.new.archive.kept)
          (epoch_day c.args.day) c.args.numbers.now c.as_slice.result.now c.in_ok-runs.runs.items true these.0 a c.as_slice.ensures.value
          (kept_archive g.S.Store c.args.archive.now.kept a s) c.in_ok-runs.ensures.filled
          (c.in_ok-runs.ensures.these (c.destroy_runs.ensures.falls clean) a s)
          (these.2 clean a (c.approved_runs.ensures.reads.stands a s)),
    )

pub returns-clause-any : goal.returns-clause-any
returns-clause-any g c = λ clean (a : Archive) s.
    ap not (c.is_empty.ensures ∙ ap (λ k. k == 0) c.in_ok-runs.runs.ok.0)
    ∙ approved_any c.args.certificates.now.seals.now c.args.damage a (epoch_day c.args.day) c.args.numbers.now c.in_ok-runs.runs.items
    c.in_ok-runs.ensures.filled (c.in_ok-runs.ensures.these (c.destroy_runs.ensures.falls clean) a s)
