use Rattle.std.proofs.Common.{◌+◌, ◌≤◌, [], length, arith, get_or, subst, sym, take}
use Rattle.std.proofs.lemmas.List.{take_all, take_more}
use Rattle.record_archive.specs.Archive.{Archive}
use Rattle.cli_changes.specs.declared.series.Changed.{Changed}
use Rattle.cli_changes.specs.Series.{IsTriedOn, tried_on}
use Rattle.cli_changes.proofs.SeriesLaws.{none_tried, on_err, one_more}
use Rattle.cli_changes.proofs.series.change_each.Goals as goal

pub loop-number-init : goal.loop-number-init
loop-number-init g c = record {
  falls = λ clean. clean;
  tried = λ clean (a : Archive) s.
      let stands = g.C.RecordChange.keeper.stands c.args.archive.now in
      let command = g.C.RecordChange.command c.args.change.now in
      subst (λ (d : Changed). IsTriedOn stands command [] a d.is_any d.is_refused) (sym c.none-changed.ensures) (none_tried stands command a s);
}

pub loop-number-preserved : goal.loop-number-preserved
loop-number-preserved g c =
    let keeper = g.C.RecordChange.keeper in
    let command = g.C.RecordChange.command c.args.change.now in
    let numbers = c.args.numbers.now in
    let i = c.loop-number.number-index in
    let was = c.loop-number.invariant in
    record {
      falls = λ clean. was.falls (c.change_one.ensures.falls clean);
      tried = λ clean (a : Archive) s.
          let so_far = was.tried (c.change_one.ensures.falls clean) a s in
          one_more (keeper.stands c.loop-number.archive) (keeper.stands c.change_one.new.archive) command (take i numbers) a
          c.loop-number.changed.is_any c.loop-number.changed.is_refused (get_or numbers i 0) c.in_ok-is_done.is_done (take (i + 1) numbers)
          c.and_one-changed.result.is_any c.and_one-changed.result.is_refused
          (take_more numbers i 0 c.loop-number-test.true) c.and_one-changed.ensures.any
          c.and_one-changed.ensures.refused so_far
          (c.in_ok-is_done.ensures.tried clean (tried_on command (take i numbers) a) so_far.stands);
    }

pub returns-in_err-is_done-clause-stopped : goal.returns-in_err-is_done-clause-stopped
returns-in_err-is_done-clause-stopped g c =
    let command = g.C.RecordChange.command c.args.change.now in
    let numbers = c.args.numbers.now in
    let i = c.loop-number.number-index in
    on_err c.from_residual.result _ (λ clean (a : Archive) s. (
      i,
      c.in_err-is_done.ensures.failed (tried_on command (take i numbers) a)
          (c.loop-number.invariant.tried (c.change_one.ensures.falls clean) a s).stands,
    ))

pub returns-clause-tried : goal.returns-clause-tried
returns-clause-tried g c =
    let numbers = c.args.numbers.now in
    let i = c.loop-number.number-index in
    let all : length numbers ≤ i = omega arith in
    λ clean (a : Archive) s.
    subst (λ l. IsTriedOn (g.C.RecordChange.keeper.stands c.loop-number.archive) (g.C.RecordChange.command c.args.change.now) l a
    c.loop-number.changed.is_any c.loop-number.changed.is_refused) (take_all i numbers all) (c.loop-number.invariant.tried clean a s)
