use Rattle.std.proofs.Common.{refl, Bool, ap, ◌∙◌, arith}
use Rattle.std.proofs.lemmas.List.{drop_all}
use Rattle.std.proofs.lemmas.Result.{err_from_is_err_and}
use Rattle.sieve_syntax.specs.View.{inner_of, ending_of}
use Rattle.sieve_syntax.specs.declared.tree.Command.{out-Command}
use Rattle.sieve_check.specs.declared.context.Context.{Context}
use Rattle.sieve_check.specs.Faults.{number_of}
use Rattle.sieve_check.specs.Lookup.{command_named}
use Rattle.sieve_check.specs.Rules.{ending_in_order}
use Rattle.sieve_check.specs.Views.{command_view}
use Rattle.sieve_check.specs.Walk.{walk, after_command}
use Rattle.sieve_check.proofs.Walks.{walk_unknown, walk_faulty, walk_fine, walk_turn, walk_stops}
use Rattle.sieve_syntax.proofs.Views.{command_of-fields, ending_of-Semicolon}
use Rattle.sieve_check.proofs.walk.+walking.Goals as goal

pub pass_command-returns-in_default-clause-value : goal.pass_command-returns-in_default-clause-value
pass_command-returns-in_default-clause-value t c =
    let node = out-Command c.args.command.now in
    rw (command_of-fields c.args.command.now) (walk_unknown c.args.context c.args.follows_branch node.name
    node.arguments (inner_of node.tests) (ending_of node.ending) (c.in_default.ensures
    ∙ ap command_named c.as_slice.ensures))

pub pass_command-returns-in-Some-command_fault-clause-value : goal.pass_command-returns-in-Some-command_fault-clause-value
pass_command-returns-in-Some-command_fault-clause-value t c =
    let node = out-Command c.args.command.now in
    rw (command_of-fields c.args.command.now) (walk_faulty c.args.context c.args.follows_branch node.name node.arguments
    (inner_of node.tests) (ending_of node.ending) (command_view c.in-Some.row.now)
    (number_of c.in-Some-command_fault.fault) (c.in-Some.ensures
    ∙ ap command_named c.as_slice.ensures)
    (rw (command_of-fields c.args.command.now) at c.in-Some-command_fault.ensures))

pub pass_command-returns-in_err-context-clause-value : goal.pass_command-returns-in_err-context-clause-value
pass_command-returns-in_err-context-clause-value t c =
    let p = err_from_is_err_and c.from_residual.result c.from_residual.ensures.1 in
    let node = out-Command c.args.command.now in
    rw (p.1, p.2, command_of-fields c.args.command.now) (c.in_err-context.ensures
    ∙ ap (λ (k : Context). walk k (ending_in_order (ending_of node.ending))) (c.after-following.ensures
    ∙ ap (λ (b : Bool). after_command b c.args.context node.arguments) c.is_require.ensures)
    ∙ walk_fine c.args.context c.args.follows_branch node.name node.arguments (inner_of node.tests)
    (ending_of node.ending) (command_view c.in-Some.row.now) (c.in-Some.ensures
    ∙ ap command_named c.as_slice.ensures)
    (rw (command_of-fields c.args.command.now) at c.in_default-command_fault.ensures))

pub pass_command-returns-clause-value : goal.pass_command-returns-clause-value
pass_command-returns-clause-value t c =
    let node = out-Command c.args.command.now in
    rw (command_of-fields c.args.command.now) (c.in_ok-context.ensures
    ∙ ap (λ (k : Context). walk k (ending_in_order (ending_of node.ending))) (c.after-following.ensures
    ∙ ap (λ (b : Bool). after_command b c.args.context node.arguments) c.is_require.ensures)
    ∙ walk_fine c.args.context c.args.follows_branch node.name node.arguments (inner_of node.tests)
    (ending_of node.ending) (command_view c.in-Some.row.now) (c.in-Some.ensures
    ∙ ap command_named c.as_slice.ensures)
    (rw (command_of-fields c.args.command.now) at c.in_default-command_fault.ensures))

pub pass_ending-returns-in_err-following-in-Block : goal.pass_ending-returns-in_err-following-in-Block
pass_ending-returns-in_err-following-in-Block t c =
    let p = err_from_is_err_and c.from_residual.result c.from_residual.ensures.1 in
    rw (p.1, p.2) (walk_stops c.as_slice-command-items.result.now c.loop-command.command-index c.command-item.result
    c.loop-command.known c.loop-command.follows_branch (number_of c.in_err-following-in-Block.field-0.0)
    (walk c.args.context (ending_in_order (ending_of c.args.ending.now))) (omega arith) c.command-item.is
    c.loop-command.invariant c.in_err-following-in-Block.ensures.value)

pub pass_ending-loop-command-preserved : goal.pass_ending-loop-command-preserved
pass_ending-loop-command-preserved t c =
    walk_turn c.as_slice-command-items.result.now c.loop-command.command-index c.command-item.result
    c.loop-command.known c.in_ok-following-in-Block.following c.loop-command.follows_branch
    c.in_ok-following-in-Block.is_branch (walk c.args.context (ending_in_order (ending_of c.args.ending.now)))
    (omega arith) c.command-item.is c.loop-command.invariant c.in_ok-following-in-Block.ensures.value
    c.in_ok-following-in-Block.ensures.branch

pub pass_ending-returns-after-loop-command : goal.pass_ending-returns-after-loop-command
unfolding walk
pass_ending-returns-after-loop-command t c =
    rw (drop_all c.loop-command.command-index c.as_slice-command-items.result.now (omega arith)) at
    c.loop-command.invariant

pub pass_ending-returns-in-Semicolon : goal.pass_ending-returns-in-Semicolon
unfolding walk
pass_ending-returns-in-Semicolon t c = rw (c.in-Semicolon.is, ending_of-Semicolon) refl
