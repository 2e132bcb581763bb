use Rattle.std.proofs.Common.{◌≡◌, ◌∙◌, ◌++◌, ◌∷◌, [], ◌+◌, ◌<◌, ℕ, List, true, false, take, drop, get_or, length}
use Rattle.std.proofs.Common.{sym, ap, refl, rules, subst}
use Rattle.std.proofs.lemmas.List.{at_drop_more, take_more, take-append-drop}
use Rattle.jiff.specs.Words.{epoch_day}
use Rattle.record_archive.specs.Archive.{Archive}
use Rattle.record_ledger.specs.Ledgers.{KeptFor, kept_archive}
use Rattle.cli_changes.specs.declared.runs.Run.{Run}
use Rattle.cli_changes.specs.Certificates.{IsTaken}
use Rattle.cli_changes.specs.Destructions.{EachOnce, IsDisposal}
use Rattle.cli_changes.specs.Runs.{AreFilled, records_of}
use Rattle.cli_changes.proofs.DisposalLaws.{before_others, hands_both}
use Rattle.cli_changes.proofs.RunDisposals.{failed, next_run, none_yet, records_split}
use Rattle.cli_changes.proofs.RunLaws.{records_alone, records_joined}
use Rattle.cli_changes.proofs.dispose.destroy_runs.Goals as goal

-- a run with those before and after it
split_at : (runs : List Run) (i : ℕ) (run : Run) → i < length runs → get_or runs i run ≡ run
    → runs ≡ take i runs ++ run ∷ drop (i + 1) runs
split_at runs i run low is =
    sym (take-append-drop i runs) ∙ at_drop_more (λ l. take i runs ++ l) runs i run low ∙ ap (λ r. take i runs ++ r ∷ drop (i + 1) runs) is

pub loop-run-init : goal.loop-run-init
loop-run-init g c = record {
  falls = λ clean. clean;
  these = ([], refl, λ clean (a : Archive) s filled once. none_yet (KeptFor g.S.Store c.args.archive.now.kept) (epoch_day c.args.day) a s);
}

pub loop-run-preserved : goal.loop-run-preserved
loop-run-preserved g c =
    let so_far = c.loop-run.invariant in
    let day = epoch_day c.args.day in
    let runs = c.args.runs.now in
    let i = c.loop-run.run-index in
    let run = c.run-item.result in
    let is : get_or runs i run ≡ run = search rules in
    let split = split_at runs i run c.loop-run-test.true is in
    let taken = ap records_of (take_more runs i run c.loop-run-test.true ∙ ap (λ r. take i runs ++ r ∷ []) is)
    ∙ records_joined (take i runs) (run ∷ []) ∙ ap (λ l. records_of (take i runs) ++ l) (records_alone run) in
    let step = c.in_ok-destroy_run.ensures.these in
    record {
      falls = λ clean. so_far.falls (c.destroy_run.ensures.falls clean);
      these = (
        so_far.these.0 ++ step.0,
        hands_both (IsTaken g.P.Printer.prints) c.args.certificates.now so_far.these.0 step.0 c.loop-run.certificates
            c.destroy_run.new.certificates so_far.these.1 step.1,
        λ clean (a : Archive) s filled once.
            subst (λ l. IsDisposal (KeptFor g.S.Store c.destroy_run.new.archive.kept) day l true (so_far.these.0 ++ step.0) a) (sym taken)
            (next_run (KeptFor g.S.Store c.loop-run.archive.kept) (KeptFor g.S.Store c.destroy_run.new.archive.kept) day (take i runs)
            (drop (i + 1) runs) run true so_far.these.0 step.0 a (subst AreFilled split filled)
            (subst (λ l. EachOnce (records_of l)) split once) (λ b k. kept_archive g.S.Store c.loop-run.archive.kept b k)
            (so_far.these.2 (c.destroy_run.ensures.falls clean) a s filled once)
            (λ b k. step.2 clean b k)),
      );
    }

pub returns-in_err-destroy_run-clause-these : goal.returns-in_err-destroy_run-clause-these
returns-in_err-destroy_run-clause-these g c =
    let so_far = c.loop-run.invariant in
    let day = epoch_day c.args.day in
    let runs = c.args.runs.now in
    let i = c.loop-run.run-index in
    let run = c.run-item.result in
    let is : get_or runs i run ≡ run = search rules in
    let split = split_at runs i run c.loop-run-test.true is in
    let step = c.in_err-destroy_run.ensures.these in (
      so_far.these.0 ++ step.0,
      hands_both (IsTaken g.P.Printer.prints) c.args.certificates.now so_far.these.0 step.0 c.loop-run.certificates
          c.destroy_run.new.certificates so_far.these.1 step.1,
      λ clean (a : Archive) s filled once.
          subst (λ d. IsDisposal (KeptFor g.S.Store c.destroy_run.new.archive.kept) day (records_of runs) d (so_far.these.0 ++ step.0) a)
          (sym (failed c.from_residual.result c.from_residual.ensures.0))
          (subst (λ l. IsDisposal (KeptFor g.S.Store c.destroy_run.new.archive.kept) day l false (so_far.these.0 ++ step.0) a)
          (sym (ap records_of split ∙ records_split (take i runs) (drop (i + 1) runs) run))
          (before_others (KeptFor g.S.Store c.destroy_run.new.archive.kept) day (records_of (take i runs) ++ run.numbers.items)
          (records_of (drop (i + 1) runs)) false (so_far.these.0 ++ step.0) a
          (next_run (KeptFor g.S.Store c.loop-run.archive.kept) (KeptFor g.S.Store c.destroy_run.new.archive.kept) day (take i runs)
          (drop (i + 1) runs) run false so_far.these.0 step.0 a (subst AreFilled split filled)
          (subst (λ l. EachOnce (records_of l)) split once) (λ b k. kept_archive g.S.Store c.loop-run.archive.kept b k)
          (so_far.these.2 (c.destroy_run.ensures.falls clean) a s filled once)
          (λ b k. step.2 clean b k)))),
    )
