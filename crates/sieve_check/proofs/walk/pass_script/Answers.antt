use Rattle.std.proofs.Common.{ap, ◌∙◌, false, arith}
use Rattle.std.proofs.lemmas.List.{drop_all}
use Rattle.std.proofs.lemmas.Result.{err_from_is_err_and}
use Rattle.sieve_syntax.specs.View.{tree_of}
use Rattle.sieve_check.specs.Faults.{number_of}
use Rattle.sieve_check.specs.Rules.{in_order}
use Rattle.sieve_check.specs.Walk.{start, walk}
use Rattle.sieve_check.proofs.Known.{refused, walk_is_refusal}
use Rattle.sieve_check.proofs.Walks.{walk_turn, walk_stops}
use Rattle.sieve_check.proofs.walk.pass_script.Goals as goal

pub returns-in_err-following : goal.returns-in_err-following
returns-in_err-following c =
    let p = err_from_is_err_and c.from_residual.result c.from_residual.ensures.1 in
    rw (p.1, p.2)
    (ap refused (walk_stops c.deref-command-items.result.now c.loop-command.command-index c.command-item.result
    c.loop-command.known c.loop-command.follows_branch (number_of c.in_err-following.field-0.0)
    (walk start (in_order false (tree_of c.args.script.now))) (omega arith) c.command-item.is
    c.loop-command.invariant c.in_err-following.ensures.value) ∙ walk_is_refusal (tree_of c.args.script.now))

pub loop-command-preserved : goal.loop-command-preserved
loop-command-preserved c =
    walk_turn c.deref-command-items.result.now c.loop-command.command-index c.command-item.result c.loop-command.known
    c.in_ok-following.following c.loop-command.follows_branch c.in_ok-following.is_branch
    (walk start (in_order false (tree_of c.args.script.now))) (omega arith) c.command-item.is
    c.loop-command.invariant c.in_ok-following.ensures.value c.in_ok-following.ensures.branch

pub returns : goal.returns
unfolding walk
returns c = ap refused (rw (drop_all c.loop-command.command-index c.deref-command-items.result.now (omega arith)) at
    c.loop-command.invariant) ∙ walk_is_refusal (tree_of c.args.script.now)
