use Rattle.std.proofs.Common.{drop}
use Rattle.desk_commands.specs.Calls.{Calls}
use Rattle.cli_sources.specs.Setting.{globally}
use Rattle.cli_sources.proofs.Calling.{Goes}
use Rattle.cli_sources.proofs.setting.set_globals.Given as goal

abbrev pub invariant-loop-script : goal.invariant-loop-script
invariant-loop-script g l = Goes (Calls g.D.Registry.keeper) globally
    l.rules.globals.items (drop l.script-index l.script-items) l.initial.desk l.desk
