use Rattle.std.proofs.Common.{[], sym}
use Rattle.std.specs.Prelude.{is_ok}
use Rattle.jiff.specs.Words.{epoch_day}
use Rattle.record_archive.specs.Archive.{Archive}
use Rattle.cli_changes.proofs.RunDisposals.{disposed, none_asked_gone, settled}
use Rattle.cli_changes.proofs.destroying.destroy_numbers.Goals as goal

pub returns-in-Ok-clause-these : goal.returns-in-Ok-clause-these
returns-in-Ok-clause-these g c =
    let these = c.in-Ok.ensures.these in (
      these.1,
      these.2,
      λ clean (a : Archive) s.
          let of = these.3 clean a s in
          disposed (g.R.Repository.stands c.dispose.new.records) (epoch_day c.args.day) c.args.numbers.now _ these.0 (is_ok c.settle.result)
          these.1 a of.0 of.1 (λ ok. these.4 (settled c.in-Ok.field-0.end c.settle.result c.settle.ensures ok))
          (c.in-Ok.ensures.all_may_go clean a s),
    )

pub returns-in-Err-clause-these : goal.returns-in-Err-clause-these
returns-in-Err-clause-these g c =
    let none = c.in-Err.ensures.none in (
      [],
      sym none.0,
      λ clean (a : Archive) s.
          none_asked_gone (g.R.Repository.stands c.dispose.new.records) (epoch_day c.args.day) c.args.numbers.now a (none.1 a s),
    )
