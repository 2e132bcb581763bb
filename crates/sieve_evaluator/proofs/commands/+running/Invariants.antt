use Rattle.std.proofs.Common.{◌≡◌, false, drop, map}
use Rattle.sieve_syntax.specs.View.{command_of, commands_of}
use Rattle.sieve_evaluator.specs.Case.{facts_of}
use Rattle.sieve_evaluator.specs.Runs.{runs_from, filing_of, includes_at}
use Rattle.sieve_evaluator.proofs.commands.+running.Given as goal

abbrev pub invariant-run-loop-command : goal.invariant-run-loop-command
invariant-run-loop-command g l =
    runs_from (facts_of l.scope.case.now) (includes_at g.L.Level.depth l.scope) l.is_open
    (commands_of (map command_of (drop l.command-index l.command-items))) (filing_of l.filing)
    ≡ runs_from (facts_of l.fn.scope.case.now) (includes_at g.L.Level.depth l.fn.scope) false
    (commands_of (map command_of l.fn.commands.items)) (filing_of l.initial.filing)
