use Rattle.std.proofs.Common.{sym, ap, ◌∙◌, subst}
use Rattle.sieve_syntax.proofs.Views.{command_of-fields, ending_of-Semicolon}
use Rattle.sieve_syntax.specs.declared.tree.Ending.TheViews.{out-Command}
use Rattle.sieve_meaning.specs.Words.{command_word}
use Rattle.sieve_evaluator.specs.Case.{facts_of}
use Rattle.sieve_evaluator.specs.Runs.{filing_of, ending_at, includes_at, IsNoIf, PlainlyEnds}
use Rattle.sieve_evaluator.proofs.RunLemmas.{branch_leads, otherwise_leads, plain_leads, branch_taken, runs_from_none, runs_from_end}
use Rattle.sieve_evaluator.proofs.commands.+running.Goals as goal

pub run_command-returns-in_ok-ending-in-Otherwise : goal.run_command-returns-in_ok-ending-in-Otherwise
run_command-returns-in_ok-ending-in-Otherwise g t c =
    rw (command_of-fields c.args.command.now)
    (otherwise_leads (facts_of c.args.scope.now.case.now) (includes_at g.L.Level.depth c.args.scope.now)
    _ _ _ _ (filing_of c.args.filing.now) (ending_at c.in_ok-ending-in-Otherwise.ending c.run_block.new.filing)
    c.command_word-word.result c.args.is_open
    (ap (λ n. command_word n) (sym c.as_slice.ensures) ∙ sym c.command_word-word.ensures) (sym c.part_in.ensures
    ∙ c.in-Otherwise.is) c.in_ok-ending-in-Otherwise.ensures)

pub run_block-returns-in-Semicolon : goal.run_block-returns-in-Semicolon
run_block-returns-in-Semicolon g t c =
    rw (
      c.in-Semicolon.is,
      ending_of-Semicolon,
    )
    (sym (runs_from_none (facts_of c.args.scope.now.case.now) (includes_at g.L.Level.depth c.args.scope.now) _
    (filing_of c.args.filing.now)))

pub run_branch-returns : goal.run_branch-returns
run_branch-returns g t c =
    rw (command_of-fields c.args.command.now)
    (branch_taken (facts_of c.args.scope.now.case.now) (includes_at g.L.Level.depth c.args.scope.now)
    (out-Command c.args.command.now).name (out-Command c.args.command.now).arguments _ _
    (filing_of c.args.filing.now) (ending_at c.in_ok-ending.ending c.run_block.new.filing)
    (sym c.is_only_true.ensures ∙ c.if-not-is_only_true.false) c.in_ok-ending.ensures)

pub run_command-returns-in_ok-ending-in-Branch : goal.run_command-returns-in_ok-ending-in-Branch
run_command-returns-in_ok-ending-in-Branch g t c =
    rw (command_of-fields c.args.command.now)
    (branch_leads (facts_of c.args.scope.now.case.now) (includes_at g.L.Level.depth c.args.scope.now)
    _ _ _ _ (filing_of c.args.filing.now) (ending_at c.in_ok-ending-in-Branch.ending c.run_branch.new.filing)
    c.command_word-word.result c.args.is_open c.in_ok-ending-in-Branch.opens
    (ap (λ n. command_word n) (sym c.as_slice.ensures) ∙ sym c.command_word-word.ensures) (sym c.part_in.ensures
    ∙ c.in-Branch.is) (rw (command_of-fields c.args.command.now) at c.in_ok-ending-in-Branch.ensures))

pub run_command-returns-in_ok-ending-in-Plain : goal.run_command-returns-in_ok-ending-in-Plain
run_command-returns-in_ok-ending-in-Plain g t c =
    rw (command_of-fields c.args.command.now)
    (plain_leads (facts_of c.args.scope.now.case.now) (includes_at g.L.Level.depth c.args.scope.now)
    _ _ _ _ (filing_of c.args.filing.now) (ending_at c.in_ok-ending-in-Plain.ending c.run_plain.new.filing)
    c.command_word-word.result c.args.is_open
    (ap (λ n. command_word n) (sym c.as_slice.ensures) ∙ sym c.command_word-word.ensures) (sym c.part_in.ensures
    ∙ c.in-Plain.is) (subst (λ args. IsNoIf c.command_word-word.result
    → PlainlyEnds (facts_of c.args.scope.now.case.now) (includes_at g.L.Level.depth c.args.scope.now)
    c.command_word-word.result args (filing_of c.args.filing.now)
    (ending_at c.in_ok-ending-in-Plain.ending c.run_plain.new.filing)) c.as_slice-arguments.ensures
    c.in_ok-ending-in-Plain.ensures))

pub run-returns : goal.run-returns
run-returns g t c =
    runs_from_end (facts_of c.args.scope.now.case.now) (includes_at g.L.Level.depth c.args.scope.now)
    c.loop-command.is_open c.deref-command-items.result.now c.loop-command.command-index
    (filing_of c.loop-command.filing) _ c.loop-command-test.false c.loop-command.invariant
