use Rattle.promises.proofs.CommandLines.{commands_run, is_session}
use Rattle.promises.proofs.lines.lines_are_sessions.Goals as goal

pub returns-clause-steps : goal.returns-clause-steps
returns-clause-steps g c = commands_run

pub returns-clause-registry : goal.returns-clause-registry
returns-clause-registry g c = is_session g.R.Registry.keeper c.sessions_refine_states.ensures.leads
