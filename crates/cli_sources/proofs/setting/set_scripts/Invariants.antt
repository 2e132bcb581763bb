use Rattle.std.proofs.Common.{drop, string_bytes}
use Rattle.desk_commands.specs.Calls.{Calls}
use Rattle.cli_sources.specs.Setting.{by_officer}
use Rattle.cli_sources.proofs.Calling.{Goes}
use Rattle.cli_sources.proofs.setting.set_scripts.Given as goal

abbrev pub invariant-loop-script : goal.invariant-loop-script
invariant-loop-script g l = Goes (Calls g.D.Registry.keeper)
    (by_officer (string_bytes l.rules.officer))
    l.rules.scripts.items (drop l.script-index l.script-items) l.initial.desk l.desk
