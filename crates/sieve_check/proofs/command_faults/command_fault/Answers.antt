use Rattle.std.specs.Option.{option_map}
use Rattle.sieve_syntax.specs.Tree.{command}
use Rattle.sieve_syntax.specs.View.{inner_of, ending_of}
use Rattle.sieve_syntax.specs.declared.tree.Command.{out-Command}
use Rattle.sieve_check.specs.Context.{has_of}
use Rattle.sieve_check.specs.Faults.{number_of}
use Rattle.sieve_check.specs.Rules.{head_of}
use Rattle.sieve_check.specs.Views.{command_view}
use Rattle.sieve_check.proofs.Judging.{command_least}
use Rattle.sieve_syntax.proofs.Views.{command_of-fields}
use Rattle.sieve_check.proofs.command_faults.command_fault.Goals as goal

pub returns : goal.returns
returns c =
    let node = out-Command c.args.command.now in
    let p = head_of c.args.follows_branch (command node.name node.arguments (inner_of node.tests) (ending_of node.ending)) in
    rw (command_of-fields c.args.command.now) (command_least (has_of c.args.context.named) c.args.context.begun
    (command_view c.args.row.now) p (option_map number_of c.place_fault-place.result)
    (option_map number_of c.form_fault-form.result) (option_map number_of c.tests_fault.result)
    (option_map number_of c.lesser.result) (option_map number_of c.lesser-2.result)
    (rw (command_of-fields c.args.command.now) at c.place_fault-place.ensures) c.form_fault-form.ensures
    c.tests_fault.ensures c.lesser.ensures c.lesser-2.ensures)
