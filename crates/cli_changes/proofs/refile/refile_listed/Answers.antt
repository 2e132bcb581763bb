use Rattle.std.proofs.Common.{◌≡◌, ◌∙◌, false, subst, sym, true}
use Rattle.std.proofs.lemmas.Result.{on_err_weaker, on_ok_weaker}
use Rattle.class_plan.specs.Plans.{Listing, has}
use Rattle.record_archive.specs.Archive.{Archive}
use Rattle.record_archive.specs.Refiling.{refile}
use Rattle.record_ledger.specs.Ledgers.{keeper_of, kept_archive, kept_plan}
use Rattle.cli_console.specs.Finds.{found_in}
use Rattle.cli_changes.specs.Moves.{moved_to, moving_numbers}
use Rattle.cli_changes.specs.Series.{IsDoneOn, StopsIn}
use Rattle.cli_changes.proofs.ChangeLaws.{none_changed, refile_changes, refile_stops}
use Rattle.cli_changes.proofs.RefileLaws.{refile_is_each}
use Rattle.cli_changes.proofs.SeriesLaws.{on_err}
use Rattle.cli_changes.proofs.refile.refile_listed.Given.{Over}
use Rattle.cli_changes.proofs.refile.refile_listed.Goals.{After-as_slice-numbers, In_ok-judge_refiling}
use Rattle.cli_changes.proofs.refile.refile_listed.Goals as goal

-- the plan has the class
there : (g : Over) (c : In_ok-judge_refiling g) (a : Archive) → (keeper_of g.S.Store).stands c.args.ledger.now a
    → has a.plan.rows c.args.refiling.now.to.now ≡ true
there g c a s =
    subst (λ (p : Listing). has p.rows c.args.refiling.now.to.now ≡ true)
    (c.plan_kept.ensures ∙ kept_plan g.S.Store c.args.ledger.now.kept a s) c.in_ok-judge_refiling.ensures.class

-- the numbers that are handed on are those of what moves
numbers_are : (g : Over) (c : After-as_slice-numbers g) → (keeper_of g.S.Store).clean c.movers_of.new.archive → (a : Archive)
    → (keeper_of g.S.Store).stands c.args.ledger.now a
    → c.as_slice-numbers.result.now ≡ moving_numbers c.args.refiling.now.to.now (found_in c.args.choice.now c.args.questions.now a)
numbers_are g c clean a s = c.as_slice-numbers.ensures.value ∙ c.in_ok-movers.ensures.movers clean a s

pub returns-clause-done : goal.returns-clause-done
returns-clause-done g c =
    let at = goal.at.returns-clause-done g c in
    on_ok_weaker c.change_all.result (λ done clean (a : Archive) s.
    let stands = (keeper_of g.S.Store).stands c.change_all.new.archive in
    let to = c.args.refiling.now.to.now in
    let has_class = there g at.In_ok-judge_refiling a s in
    let are = numbers_are g at.After-as_slice-numbers (c.change_all.ensures.falls clean) a s in
    let all = subst (λ ns. IsDoneOn stands (λ n b. refile b n to) ns a) are (done clean a (c.movers_of.ensures.reads.stands a s)) in (
      refile_changes stands a (kept_archive g.S.Store c.args.ledger.now.kept a s) to has_class c.args.choice.now c.args.questions.now all.0 false
          all.1,
      record { class = has_class; are = sym are ∙ c.in_ok-judge_listed.ensures },
    )) c.change_all.ensures.done

pub returns-clause-failed : goal.returns-clause-failed
returns-clause-failed g c =
    let at = goal.at.returns-clause-failed g c in
    on_err_weaker c.change_all.result (λ stopped clean (a : Archive) s.
    let stands = (keeper_of g.S.Store).stands c.change_all.new.archive in
    let to = c.args.refiling.now.to.now in
    refile_stops stands a (kept_archive g.S.Store c.args.ledger.now.kept a s) to (there g at.In_ok-judge_refiling a s) c.args.choice.now
    c.args.questions.now
    (subst (λ ns. StopsIn stands (λ n b. refile b n to) ns a)
    (numbers_are g at.After-as_slice-numbers (c.change_all.ensures.falls clean) a s)
    (stopped clean a (c.movers_of.ensures.reads.stands a s)))) c.change_all.ensures.stopped

pub returns-in_err-judge_listed-clause-failed : goal.returns-in_err-judge_listed-clause-failed
returns-in_err-judge_listed-clause-failed g c =
    on_err c.from_residual-in_err-judge_listed.result _ (λ clean (a : Archive) s.
    let to = c.args.refiling.now.to.now in
    none_changed ((keeper_of g.S.Store).stands c.movers_of.new.archive) (λ n b. refile b n to) (moved_to to) (refile_is_each to)
    (moving_numbers to (found_in c.args.choice.now c.args.questions.now a)) a (c.movers_of.ensures.reads.stands a s))

pub returns-in_err-movers-clause-failed : goal.returns-in_err-movers-clause-failed
returns-in_err-movers-clause-failed g c =
    on_err c.from_residual-in_err-movers.result _ (λ clean (a : Archive) s.
    let to = c.args.refiling.now.to.now in
    none_changed ((keeper_of g.S.Store).stands c.movers_of.new.archive) (λ n b. refile b n to) (moved_to to) (refile_is_each to)
    (moving_numbers to (found_in c.args.choice.now c.args.questions.now a)) a (c.movers_of.ensures.reads.stands a s))

pub returns-in_err-judge_refiling-clause-failed : goal.returns-in_err-judge_refiling-clause-failed
returns-in_err-judge_refiling-clause-failed g c =
    on_err c.from_residual.result _ (λ clean (a : Archive) s.
    let to = c.args.refiling.now.to.now in
    none_changed ((keeper_of g.S.Store).stands c.args.ledger.now) (λ n b. refile b n to) (moved_to to) (refile_is_each to)
    (moving_numbers to (found_in c.args.choice.now c.args.questions.now a)) a s)
