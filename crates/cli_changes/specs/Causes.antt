-- What is told of the fault in which a run ended.
use Rattle.std.specs.Prelude.{Bool, true, false, Option, Some, None}
use Rattle.class_plan.specs.Plans.{Listing, has}
use Rattle.sieve_meaning.specs.Reading.{first_string, string_lists}
use Rattle.sieve_meaning.specs.declared.run_fault.RunFault.{RunFault}
use Rattle.sieve_meaning.specs.declared.run_fault.RunFault.TheVariants as run
use Rattle.sieve_syntax.specs.declared.tree.Command.{Command}
use Rattle.tool_inquiry.specs.declared.culprits.Culprit.{Culprit}
use Rattle.cli_changes.specs.declared.fault_words.Unopened.{Unopened}
use Rattle.cli_changes.specs.declared.fault_words.Unopened.TheVariants.{Closed, Missing}

-- a class that is not open is closed where the plan has it, and else missing
abbrev pub why_not_open : (is_class : Bool) → Unopened
why_not_open true = Closed
why_not_open false = Missing

-- of a `fileinto` at fault, why its class is not open
abbrev pub class_told : Listing → RunFault → Command → Option Unopened
class_told plan run.ClassNotOpen command = Some (why_not_open (has plan.rows (first_string (string_lists false command.arguments))))
class_told plan _ command = None

abbrev pub class_of_culprit : Listing → RunFault → Culprit → Option Unopened
class_of_culprit plan fault culprit = class_told plan fault culprit.command.now
