use Rattle.std.proofs.Common.{sym, ap, subst}
use Rattle.std.specs.Prelude.{is_ok}
use Rattle.jiff.specs.Words.{epoch_day}
use Rattle.record_archive.specs.Archive.{Archive}
use Rattle.record_ledger.specs.Ledgers.{KeptFor, store_of}
use Rattle.sqlite.specs.State.{HasCleanDisk}
use Rattle.sqlite.specs.Held.{state}
use Rattle.cli_changes.specs.Destructions.{DisposesAsked}
use Rattle.cli_changes.proofs.dispose.destroy_run.Goals as goal

pub returns-clause-these : goal.returns-clause-these
returns-clause-these g c =
    let day = epoch_day c.args.day in
    let before = ap (λ l. l.kept) c.set_notes.ensures in
    let after = ap (λ l. l.kept) c.set_notes-2.ensures in
    let done = is_ok c.destroy_numbers-done.result in
    let these = c.destroy_numbers-done.ensures.these in (
      these.0,
      these.1,
      λ clean (a : Archive) s.
          subst (λ k. DisposesAsked (KeptFor g.S.Store k) day c.args.run.now.numbers.items done these.0 a) (sym after)
          (subst (λ ns. DisposesAsked (KeptFor g.S.Store c.destroy_numbers-done.new.archive.kept) day ns done these.0 a) c.numbers.ensures
          (these.2 (subst (λ k. HasCleanDisk (state g.S.Store (store_of k).conn)) after clean) a
          (subst (λ k. KeptFor g.S.Store k a) (sym before) s))),
    )
