use Rattle.record_archive.specs.Archive.{Archive}
use Rattle.jiff.specs.Words.{epoch_day}
use Rattle.record_choice.specs.Disposals.{certificate_view}
use Rattle.record_choice.proofs.Keepers.{told_gone}
use Rattle.record_choice.proofs.destruction.destroy_one.Goals as goal

pub returns-clause-done : goal.returns-clause-done
returns-clause-done g c =
    let x = c.in-Ok.told in
    let certificate = certificate_view x.0 in (
      certificate,
      c.take.ensures.taken certificate c.in-Ok-draft.ensures,
      λ clean (a : Archive) s known.
          let before = c.destroy.ensures.falls clean in
          rw c.known_after.ensures
          (told_gone (g.R.Repository.stands c.destroy.new.self) a c.args.number (epoch_day c.args.day) certificate x.1
          (c.in-Ok.ensures.told before a s known) (c.in-Ok-destroy.ensures.done clean a (c.describe.ensures.reads.stands a s))),
    )
