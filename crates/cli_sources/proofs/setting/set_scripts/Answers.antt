use Rattle.std.proofs.Common.{string_bytes}
use Rattle.desk_commands.specs.Calls.{Calls}
use Rattle.cli_sources.specs.Setting.{by_officer}
use Rattle.cli_sources.proofs.Calling.{next_of, goes_on, goes_to_fault}
use Rattle.cli_sources.proofs.setting.set_scripts.Goals as goal

pub loop-script-preserved : goal.loop-script-preserved
loop-script-preserved g c =
    goes_on (Calls g.D.Registry.keeper)
    (by_officer (string_bytes c.args.rules.now.officer))
    c.args.rules.now.scripts.items c.script-item.result _ _ _ _ _
    (next_of c.deref-script-items.result.now c.loop-script.script-index c.script-item.result c.loop-script-test.true c.script-item.is)
    c.loop-script.invariant (rw (c.as_bytes.ensures.value, c.as_bytes-name.ensures.value) at c.in_default.ensures)

pub returns-in-Err-clause-stopped : goal.returns-in-Err-clause-stopped
returns-in-Err-clause-stopped g c =
    goes_to_fault (Calls g.D.Registry.keeper)
    (by_officer (string_bytes c.args.rules.now.officer))
    c.args.rules.now.scripts.items c.script-item.result _ _ _ _ _ c.in-Err.fault c.refused.result
    (next_of c.deref-script-items.result.now c.loop-script.script-index c.script-item.result c.loop-script-test.true c.script-item.is)
    c.refused.ensures c.loop-script.invariant (rw (c.as_bytes.ensures.value, c.as_bytes-name.ensures.value) at c.in-Err.ensures)
