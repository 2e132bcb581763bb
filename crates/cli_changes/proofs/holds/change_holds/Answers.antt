use Rattle.std.proofs.Common.{◌∙◌}
use Rattle.record_archive.specs.Archive.{Archive}
use Rattle.record_ledger.specs.Ledgers.{keeper_of, kept_archive}
use Rattle.cli_console.specs.Finds.{found_in}
use Rattle.cli_changes.specs.Holdings.{changed_numbers, changed_on}
use Rattle.cli_changes.proofs.ChangeLaws.{all_first, held_at_end, hold_well}
use Rattle.cli_changes.proofs.SeriesLaws.{on_err, on_ok_both}
use Rattle.cli_changes.proofs.holds.change_holds.Goals as goal

pub returns-clause-done : goal.returns-clause-done
returns-clause-done g c =
    on_ok_both c.end_holds.result c.end_holds.ensures.held c.end_holds.ensures.accepted (λ seen well clean (a : Archive) s.
    let all = c.in_ok-tally.ensures.done (c.may_be_held.ensures.reads.falls clean) a s in
    let after = changed_on c.args.change c.args.name.now
    (changed_numbers c.args.change c.args.name.now (found_in c.args.choice.now c.args.questions.now a)) a in (
      c.may_be_held.ensures.reads.stands after all.0,
      hold_well a (kept_archive g.S.Store c.args.archive.now.kept a s) c.args.change c.args.name.now c.args.choice.now c.args.questions.now
          c.in_ok-tally.tally well all.1 (λ none. held_at_end c.args.change c.args.name.now after
          (λ ends. c.in_ok-is_held.ensures.held (seen ends none) (c.is_any.ensures ∙ none) clean after all.0)),
    ))

pub returns-clause-failed : goal.returns-clause-failed
returns-clause-failed g c =
    on_err c.end_holds.result _ (λ clean (a : Archive) s.
    let made = changed_on c.args.change c.args.name.now in
    let numbers = changed_numbers c.args.change c.args.name.now (found_in c.args.choice.now c.args.questions.now a) in
    let all = c.in_ok-tally.ensures.done (c.may_be_held.ensures.reads.falls clean) a s in
    all_first ((keeper_of g.S.Store).stands c.may_be_held.new.archive) made numbers a (c.may_be_held.ensures.reads.stands (made numbers a) all.0))

pub returns-in_err-is_held-clause-failed : goal.returns-in_err-is_held-clause-failed
returns-in_err-is_held-clause-failed g c =
    on_err c.from_residual-in_err-is_held.result _ (λ clean (a : Archive) s.
    let made = changed_on c.args.change c.args.name.now in
    let numbers = changed_numbers c.args.change c.args.name.now (found_in c.args.choice.now c.args.questions.now a) in
    let all = c.in_ok-tally.ensures.done (c.may_be_held.ensures.reads.falls clean) a s in
    all_first ((keeper_of g.S.Store).stands c.may_be_held.new.archive) made numbers a (c.may_be_held.ensures.reads.stands (made numbers a) all.0))

pub returns-in_err-tally-clause-failed : goal.returns-in_err-tally-clause-failed
returns-in_err-tally-clause-failed g c = on_err c.from_residual.result _ c.in_err-tally.ensures.failed
